-- Fittings leaving and coming.
use Rattle.std.specs.Prelude.{ℕ, Bool, ◌&&◌, List, fold, filter, ◌==◌, bit_or, nat_le}
use Rattle.run.specs.declared.Run.{Run}
use Rattle.run.specs.Minutes.{arrival_minute}

-- the union of the fittings of the runs; of no run it is 0
abbrev pub fittings_of : List Run → ℕ
fittings_of rs = fold (λ f r. bit_or f r.fittings) 0 rs

-- is r a departure of v with t1 ≤ start ≤ t2
abbrev pub leaves_in : ℕ → ℕ → ℕ → Run → Bool
leaves_in v t1 t2 r = r.from == v && (nat_le t1 r.start && nat_le r.start t2)

-- is r an arrival of v with t1 ≤ arrival minute ≤ t2
abbrev pub comes_in : ℕ → ℕ → ℕ → Run → Bool
comes_in v t1 t2 r = r.to == v && (nat_le t1 (arrival_minute r) && nat_le (arrival_minute r) t2)

-- fittings leaving v from t1 to t2
abbrev pub fittings_leaving : List Run → ℕ → ℕ → ℕ → ℕ
fittings_leaving T v t1 t2 = fittings_of (filter (leaves_in v t1 t2) T)

-- fittings coming to v from t1 to t2
abbrev pub fittings_coming : List Run → ℕ → ℕ → ℕ → ℕ
fittings_coming T v t1 t2 = fittings_of (filter (comes_in v t1 t2) T)
