use Rattle.std.proofs.Common.{◌-◌, take, Ok, refl, ap, ◌∙◌, arith}
use Rattle.std.specs.Vec.{with_items_from}
use Rattle.book.specs.Entries.{ascending}
use Rattle.book.proofs.Calls.{remove_unheld, remove_done}
use Rattle.book.proofs.Edits.{removed_ascends}
use Rattle.row.specs.Slots.{stored}
use Rattle.row.specs.Rows.{row_entries}
use Rattle.row.specs.Invariant.{is_rising, same_order}
use Rattle.row.proofs.Pairs.{value_there, entries_taken}
use Rattle.row.proofs.calls.RowBook.remove.Goals as goal

pub returns-in_default : goal.returns-in_default
returns-in_default g c =
    let r = remove_unheld c.args.key (row_entries g.M.Monoid.reads c.args.self.now) c.in_default.ensures.absent in
    record { answer = r.0; after = r.1; kept = refl; sums = λ s. s }

pub invariant_of-self : goal.invariant_of-self
invariant_of-self g c =
    let reads = g.M.Monoid.reads in
    let row = c.args.self.now in
    let k = c.args.key in
    let x = c.index.result.now in
    let gone = entries_taken reads row k c.in-Ok.place row.count c.slice_mut.result.now c.take_out.new.slots c.slice_mut.ensures.value c.take_out.auto.slots row.within x refl c.index.ensures c.in-Ok.ensures c.take_out.ensures in
    let up = ap ascending gone ∙ removed_ascends k (row_entries reads row) (is_rising reads row) in
    record { within = omega (arith, row.within); small = omega (arith, row.small); rising = same_order stored reads (take (row.count - 1) (with_items_from row.memory 0 c.take_out.new.slots).items) ∙ up }

pub returns : goal.returns
returns g c =
    let reads = g.M.Monoid.reads in
    let row = c.args.self.now in
    let k = c.args.key in
    let x = c.index.result.now in
    let gone = entries_taken reads row k c.in-Ok.place row.count c.slice_mut.result.now c.take_out.new.slots c.slice_mut.ensures.value c.take_out.auto.slots row.within x refl c.index.ensures c.in-Ok.ensures c.take_out.ensures in
    let found = value_there reads row k c.in-Ok.place x c.index.ensures c.in-Ok.ensures in
    record { answer = ap Ok c.from_plain-value.ensures ∙ remove_done k (reads x.value) (row_entries reads row) found; after = gone; kept = refl; sums = λ s. s }
