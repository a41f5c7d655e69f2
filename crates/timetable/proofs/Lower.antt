-- No way sends fewer boxes out from a vault than its need.
use Rattle.std.proofs.Common.{◌≡◌, ℕ, ◌+◌, ◌≤◌, eqb, ◌⊎◌, List, [], ◌∷◌, pos, ◌-ℤ◌, ◌≤ℤ◌, inl, inr, arith}
use Rattle.std.specs.List.{AllByRecursion as All}
use Rattle.std.proofs.lemmas.List.Sums.{sum_by-cons, sum_by-append}
use Rattle.std.proofs.lemmas.Int.{ints}
use Rattle.std.proofs.lemmas.Bool.Decides.{nat_tests}
use Rattle.run.specs.declared.Run.{Run}
use Rattle.timetable.specs.Levels.{departs_by, arrives_by, departures, arrivals, level}
use Rattle.timetable.specs.Ways.{Follows, Chain, runs_of, sends, sent}
use Rattle.timetable.specs.Laws.{NoneWithFewer}
use Rattle.timetable.proofs.Ranks.{one}

-- the level as an inequality, and back
pub level_above : (d a n : ℕ) → (pos d -ℤ pos a) ≤ℤ pos n → d ≤ n + a
level_above d a n h = omega (arith, ints)

pub level_is : (d a n : ℕ) → pos d -ℤ pos a ≡ pos n → d ≡ n + a
level_is d a n h = omega (arith, ints)

-- what left by t in a chain came in before, but for the first
left_in : (v t : ℕ) (r s : Run) → Follows r s → one (departs_by v t s) ≤ one (arrives_by v t r)
left_in v t r s f =
    let there = f.there in
    let soon = f.in_time in
    grind (arith, nat_tests)

first_left : (v t : ℕ) (r : Run) → one (departs_by v t r) ≤ one (eqb r.from v)
first_left v t r = grind (arith, nat_tests)

mid : (v t : ℕ) (r : Run) (rs : List Run) → Chain (r ∷ rs) → departures (r ∷ rs) v t ≤ one (departs_by v t r) + arrivals (r ∷ rs) v t
mid v t r [] h = omega arith
mid v t r (s ∷ rs) h =
    let rest = mid v t s rs h.1 in
    let step = left_in v t r s h.0 in
    let L = sum_by-cons (λ x. one (departs_by v t x)) r (s ∷ rs) in
    let A = sum_by-cons (λ x. one (arrives_by v t x)) r (s ∷ rs) in
    omega arith

along : (v t : ℕ) (c : List Run) → Chain c → departures c v t ≤ one (sends v c) + arrivals c v t
along v t [] h = absurd h
along v t (r ∷ rs) h = omega (arith, mid v t r rs h, first_left v t r)

over : (v t : ℕ) (W : List (List Run)) → All Chain W → departures (runs_of W) v t ≤ sent W v + arrivals (runs_of W) v t
over v t [] h = omega arith
over v t (c ∷ W) h =
    let here = along v t c h.0 in
    let rest = over v t W h.1 in
    let L = sum_by-append (λ x. one (departs_by v t x)) c (runs_of W) in
    let A = sum_by-append (λ x. one (arrives_by v t x)) c (runs_of W) in
    let S = sum_by-cons (λ x. one (sends v x)) c W in
    omega arith

pub none_with_fewer : NoneWithFewer
none_with_fewer T W way v n need = go need.reached
  where
    go : (n ≡ 0) ⊎ ((t : ℕ) × (level T v t ≡ pos n)) → n ≤ sent W v
    go (inl e) = omega arith
    go (inr p) =
        let t = p.0 in
        let high = level_is (departures T v t) (arrivals T v t) n p.1 in
        let most = over v t W way.chains in
        let same_left = way.same (departs_by v t) in
        let same_in = way.same (arrives_by v t) in
        omega arith
