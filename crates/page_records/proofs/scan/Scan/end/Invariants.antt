use Rattle.std.proofs.Common.{◌≡◌, Ok}
use Rattle.page_records.specs.Steps.{counted_at, rest_of}
use Rattle.page_records.proofs.scan.Scan.end.Given as goal

-- the count is still the section's, the rest decides for all that was left, and so many are read
abbrev pub invariant-loop : goal.invariant-loop
invariant-loop l =
    (counted_at l.scan.section l.scan.page.now l.scan.cursor.start ≡ Ok l.count)
    × (rest_of l.scan.section l.scan.page.now l.scan.cursor ≡ rest_of l.self.section l.self.page.now l.self.cursor)
    × (l.scan.cursor.read ≡ l.counter)
