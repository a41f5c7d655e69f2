-- First in, first out is a way, and sends exactly the need.
use Rattle.std.proofs.Common.{◌≡◌, ℕ, ◌<◌, ◌≤◌, Bool, true, false, ◌&&◌, eqb, ltb, ◌⊎◌, List, [], ◌∷◌, count_by, subst, inl, inr, arith}
use Rattle.std.specs.List.{AllByRecursion as All}
use Rattle.std.proofs.lemmas.List.Sums.{sum_by-cons, sum_by-append}
use Rattle.std.proofs.ByRecursion.{all-has}
use Rattle.std.proofs.lemmas.Bool.{cases_lt, and_from, eqb-true, lt-ltb}
use Rattle.std.proofs.lemmas.Bool.Decides.{nat_tests}
use Rattle.run.specs.declared.Run.{Run}
use Rattle.run.specs.Minutes.{arrival_minute}
use Rattle.timetable.specs.Levels.{departs_by, arrives_by, departures, arrivals, Needs}
use Rattle.timetable.specs.Ways.{Chain, runs_of, Way, sends, sent}
use Rattle.timetable.specs.Fifo.{leaves_before, comes_before, place, Block, Takes, Linked, Opens, Boxed, chains_of}
use Rattle.timetable.specs.Laws.{FifoSendsTheNeed, BlocksAreChains}
use Rattle.timetable.proofs.Lower.{level_above, none_with_fewer}
use Rattle.timetable.proofs.Ranks.{one, In, in_head, in_tail, in_left, in_right, count_le, count_strict, imp, few}
use Rattle.timetable.proofs.Takes.{takes_of}

pub leaves_irr : (x : Run) → leaves_before x x ≡ false
leaves_irr x = grind (arith, nat_tests)

pub leaves_trans : (x y z : Run) → leaves_before x y ≡ true → leaves_before y z ≡ true → leaves_before x z ≡ true
leaves_trans x y z h k = grind (arith, nat_tests)

pub leaves_tri : (x y : Run) → leaves_before x y ≡ false → leaves_before y x ≡ false → x.number ≡ y.number
leaves_tri x y h k = grind (arith, nat_tests)

module _ (T : List Run) (need : ℕ → ℕ) (needs : Needs T need) where
  -- the box is there when it is due
  pub waits : (r s : Run) → In T s → Takes T need r s → arrival_minute r ≤ s.start
  waits r s i h = go (cases_lt s.start (arrival_minute r))
    where
      v : ℕ
      v = s.from

      t : ℕ
      t = s.start

      go : (s.start < arrival_minute r) ⊎ (arrival_minute r ≤ s.start) → arrival_minute r ≤ s.start
      go (inr e) = e
      go (inl w) =
          let out = count_strict (λ x. eqb x.from s.from && leaves_before x s) (departs_by v t) (λ x e. grind (arith, nat_tests)) T s i (grind (arith, nat_tests)) (grind (arith, nat_tests)) in
          let back = count_le (arrives_by v t) (λ x. eqb x.to r.to && comes_before x r) (λ x e. let th = h.there in grind (arith, nat_tests)) T in
          let lvl = level_above (departures T v t) (arrivals T v t) (need v) ((needs v).none_above t) in
          absurd (omega (arith, h.turn))

  chain_of : (c : List Run) → All (In T) c → Linked T need c → Chain c
  chain_of [] i l = l
  chain_of (r ∷ []) i l = tt
  chain_of (r ∷ s ∷ rs) i l = (record { there = l.0.1; in_time = waits r s i.1.0 (takes_of T need r s l.0) }, chain_of (s ∷ rs) i.1 l.1)

  all_in : (xs : List Run) → ((x : Run) → In xs x → In T x) → All (In T) xs
  all_in [] sub = tt
  all_in (x ∷ xs) sub = (sub x (in_head x xs), all_in xs (λ y i. sub y (in_tail x y xs i)))

  chains : (B : List Block) → ((x : Run) → In (runs_of (chains_of B)) x → In T x) → All (Boxed T need) B → All Chain (chains_of B)
  chains [] sub h = tt
  chains (b ∷ B) sub h =
      let rest = runs_of (chains_of B) in (
        chain_of b.runs (all_in b.runs (λ x i. sub x (in_left x b.runs rest i))) h.0.linked,
        chains B (λ x i. sub x (in_right x b.runs rest i)) h.1,
      )

  -- a departure from v that is within the need
  abbrev early : ℕ → Run → Bool
  early v r = eqb r.from v && ltb (place leaves_before (λ s. eqb s.from v) T r) (need v)

  opens_one : (v w i : ℕ) (c : List Run) → Opens T need w i c → one (sends v c) ≤ count_by (early v) c
  opens_one v w i [] h = absurd h
  opens_one v w i (r ∷ rs) h = omega (arith, sum_by-cons (λ x. one (early v x)) r rs, imp (eqb r.from v) (early v r) first)
    where
      first : eqb r.from v ≡ true → early v r ≡ true
      first t =
          let e = eqb-true r.from v t in
          let P : ℕ → Type 0 = λ u. place leaves_before (λ s. eqb s.from u) T r < need u in
          let within = subst (λ u. i ≤ need u) h.0 h.2 in
          let low : P v = subst P e (omega (arith, h.1)) in
          and_from (eqb r.from v) (ltb (place leaves_before (λ s. eqb s.from v) T r) (need v)) t (lt-ltb _ _ low)

  opened : (v : ℕ) (B : List Block) → All (Boxed T need) B → sent (chains_of B) v ≤ count_by (early v) (runs_of (chains_of B))
  opened v [] h = omega arith
  opened v (b ∷ B) h =
      omega (
        arith,
        sum_by-cons (λ c. one (sends v c)) b.runs (chains_of B),
        sum_by-append (λ x. one (early v x)) b.runs (runs_of (chains_of B)),
        opens_one v b.vault b.number b.runs h.0.opens,
        opened v B h.1,
      )

pub fifo_sends_the_need : FifoSendsTheNeed
fifo_sends_the_need T need B needs apart fifo =
    let sub : (x : Run) → In (runs_of (chains_of B)) x → In T x = λ x i p. omega (arith, i p, fifo.same p) in
    let way : Way T (chains_of B) = record { chains = chains T need needs B sub fifo.boxed; same = fifo.same } in (
      way,
      λ v.
          let most = opened T need needs v B fifo.boxed in
          let least = none_with_fewer T (chains_of B) way v (need v) (needs v) in
          let within = few leaves_before leaves_irr leaves_trans (λ r. r.number) leaves_tri T apart (λ s. eqb s.from v) (need v) in
          omega (arith, fifo.same (early T need needs v)),
    )

-- what holds of every chain holds of every block's runs
of_blocks : (P : List Run → Type 0) (B : List Block) → All P (chains_of B) → All (λ b. P b.runs) B
of_blocks P [] h = tt
of_blocks P (b ∷ B) h = (h.0, of_blocks P B h.1)

pub blocks_are_chains : BlocksAreChains
blocks_are_chains T need B needs apart fifo b h = all-has (λ c. Chain c.runs) B b (of_blocks Chain B (fifo_sends_the_need T need B needs apart fifo).0.chains) h
