use Rattle.std.proofs.Common.{◌≡◌, ◌+◌, ◌<◌, take, sym, refl, ap, ◌∙◌, arith}
use Rattle.std.specs.Vec.{with_items_from}
use Rattle.book.specs.Entries.{ascending, inserted}
use Rattle.book.proofs.Calls.{insert_held, insert_done}
use Rattle.book.proofs.Edits.{inserted_ascends}
use Rattle.row.specs.Slots.{stored}
use Rattle.row.specs.Rows.{row_entries, row_capacity}
use Rattle.row.specs.Invariant.{count_is, is_rising, same_order}
use Rattle.row.proofs.Pairs.{stands_held, entries_put}
use Rattle.row.proofs.calls.RowBook.insert.Goals as goal

pub returns-in_default : goal.returns-in_default
returns-in_default g c =
    let reads = g.M.Monoid.reads in
    let row = c.args.self.now in
    let r = insert_held c.args.key c.args.value (row_entries reads row) (row_capacity row) (stands_held reads row c.args.key c.in_default.field-0 c.in_default.ensures) in
    record { answer = r.0; after = r.1; kept = refl; sums = λ s. s }

pub invariant_of-self : goal.invariant_of-self
invariant_of-self g c =
    let reads = g.M.Monoid.reads in
    let row = c.args.self.now in
    let k = c.args.key in
    let at = c.in-Err.ensures in
    let room : row.count < row_capacity row = omega (arith, row.within, row.small, c.room.ensures, c.if-count-room.false) in
    let put = entries_put reads row k c.in-Err.place (row.count + 1) c.slice_mut.result.now c.put_in.new.slots c.slice_mut.ensures.value c.put_in.auto.slots (omega arith) record { key = k; value = c.plain.result } refl refl at c.put_in.ensures in
    let up = ap ascending put ∙ inserted_ascends k (reads c.plain.result) (row_entries reads row) (is_rising reads row) at.absent in
    record { within = omega arith; small = omega arith; rising = same_order stored reads (take (row.count + 1) (with_items_from row.memory 0 c.put_in.new.slots).items) ∙ up }

pub returns-clause-after : goal.returns-clause-after
returns-clause-after g c =
    let reads = g.M.Monoid.reads in
    let row = c.args.self.now in
    let k = c.args.key in
    let at = c.in-Err.ensures in
    let es = row_entries reads row in
    let room : row.count < row_capacity row = omega (arith, row.within, row.small, c.room.ensures, c.if-count-room.false) in
    let put = entries_put reads row k c.in-Err.place (row.count + 1) c.slice_mut.result.now c.put_in.new.slots c.slice_mut.ensures.value c.put_in.auto.slots (omega arith) record { key = k; value = c.plain.result } refl refl at c.put_in.ensures in
    let value : reads c.plain.result ≡ c.args.value = ap reads c.plain.ensures ∙ g.met.M.Monoid.back c.args.value in
    put ∙ ap (λ v. inserted k v es) value ∙ (insert_done k c.args.value es (row_capacity row) at.absent (λ full. c.if-count-room.false (sym (count_is reads row) ∙ full ∙ sym c.room.ensures))).1
