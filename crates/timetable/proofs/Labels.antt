-- Each box up to the need is there once.
use Rattle.std.proofs.Common.{◌≡◌, ℕ, zero, suc, ◌+◌, ◌<◌, ◌≤◌, Bool, true, false, ◌&&◌, eqb, ltb, leb, ◌⊎◌, List, [], ◌∷◌, count_by, sym, ◌∙◌, subst, inl, inr, arith}
use Rattle.std.specs.List.{AllByRecursion as All}
use Rattle.std.proofs.lemmas.List.Sums.{sum_by-cons, sum_by-append}
use Rattle.std.proofs.ByRecursion.{all-has}
use Rattle.std.proofs.lemmas.Bool.{cases_lt, cases_eq, and_parts, and_from, eq-eqb, eqb-true}
use Rattle.std.proofs.lemmas.Bool.Decides.{nat_tests}
use Rattle.run.specs.declared.Run.{Run}
use Rattle.timetable.specs.Levels.{Needs}
use Rattle.timetable.specs.Ways.{runs_of, sends, sent, Apart}
use Rattle.timetable.specs.Fifo.{leaves_before, place, Block, Opens, Boxed, chains_of, Fifo}
use Rattle.timetable.specs.Laws.{EachBoxOnce}
use Rattle.timetable.proofs.Queues.{count_none}
use Rattle.timetable.proofs.Ranks.{one, imp, all_of, sum_le, sum_add, lone}
use Rattle.timetable.proofs.Fifo.{leaves_irr, leaves_trans, leaves_tri, fifo_sends_the_need}

module _ (T : List Run) (need : ℕ → ℕ) (v : ℕ) where
  abbrev label : ℕ → Block → Bool
  label i b = eqb b.vault v && eqb b.number i

  abbrev at : ℕ → Run → Bool
  at k r = eqb r.from v && eqb (place leaves_before (λ s. eqb s.from v) T r) k

  opens_at : (k w i : ℕ) (c : List Run) → Opens T need w i c → one (eqb w v && eqb i (suc k)) ≤ count_by (at k) c
  opens_at k w i [] h = absurd h
  opens_at k w i (r ∷ rs) h = omega (arith, sum_by-cons (λ x. one (at k x)) r rs, imp (eqb w v && eqb i (suc k)) (at k r) first)
    where
      first : (eqb w v && eqb i (suc k)) ≡ true → at k r ≡ true
      first t =
          let ps = and_parts (eqb w v) (eqb i (suc k)) t in
          let e : r.from ≡ v = sym h.0 ∙ eqb-true w v ps.0 in
          let P : ℕ → Type 0 = λ u. place leaves_before (λ s. eqb s.from u) T r ≡ k in
          let pl : P v = subst P e (omega (arith, h.1, eqb-true i (suc k) ps.1)) in
          and_from (eqb r.from v) (eqb (place leaves_before (λ s. eqb s.from v) T r) k) (eq-eqb _ _ e) (eq-eqb _ _ pl)

  labels_at : (k : ℕ) (B : List Block) → All (Boxed T need) B → count_by (label (suc k)) B ≤ count_by (at k) (runs_of (chains_of B))
  labels_at k [] h = omega arith
  labels_at k (b ∷ B) h =
      omega (
        arith,
        sum_by-cons (λ x. one (label (suc k) x)) b B,
        sum_by-append (λ x. one (at k x)) b.runs (runs_of (chains_of B)),
        opens_at k b.vault b.number b.runs h.0.opens,
        labels_at k B h.1,
      )

  -- a chain that sends in v is a block of v, with a box from 1 up to the need
  abbrev upto : ℕ → Block → Bool
  upto n b = eqb b.vault v && (ltb 0 b.number && leb b.number n)

  opens_upto : (w i : ℕ) (c : List Run) → Opens T need w i c → one (sends v c) ≤ one (eqb w v && (ltb 0 i && leb i (need v)))
  opens_upto w i [] h = absurd h
  opens_upto w i (r ∷ rs) h = imp (eqb r.from v) (eqb w v && (ltb 0 i && leb i (need v))) first
    where
      first : eqb r.from v ≡ true → (eqb w v && (ltb 0 i && leb i (need v))) ≡ true
      first t =
          let e : w ≡ v = h.0 ∙ eqb-true r.from v t in
          let low : i ≤ need v = subst (λ u. i ≤ need u) e h.2 in
          let big : 0 < i = omega (arith, h.1) in
          grind (arith, nat_tests)

  sent_upto : (B : List Block) → All (Boxed T need) B → sent (chains_of B) v ≤ count_by (upto (need v)) B
  sent_upto [] h = omega arith
  sent_upto (b ∷ B) h = omega (arith, sum_by-cons (λ c. one (sends v c)) b.runs (chains_of B), sum_by-cons (λ x. one (upto (need v) x)) b B, opens_upto b.vault b.number b.runs h.0.opens, sent_upto B h.1)

  one_more : (n : ℕ) (B : List Block) → count_by (upto (suc n)) B ≤ count_by (upto n) B + count_by (label (suc n)) B
  one_more n B = omega (
    arith,
    sum_add (λ b. one (upto n b)) (λ b. one (label (suc n) b)) B,
    sum_le (λ b. one (upto (suc n) b)) (λ b. one (upto n b) + one (label (suc n) b)) B (all_of (λ b. one (upto (suc n) b) ≤ one (upto n b) + one (label (suc n) b)) (λ b. grind (arith, nat_tests)) B),
  )

  none_at_0 : (B : List Block) → count_by (upto 0) B ≡ 0
  none_at_0 B = count_none (upto 0) B (all_of (λ b. upto 0 b ≡ false) (λ b. grind (arith, nat_tests)) B)

  module _ (B : List Block) (each : (k : ℕ) → count_by (label (suc k)) B ≤ 1) where
    at_most : (n : ℕ) → count_by (upto n) B ≤ n
    at_most zero = omega (arith, none_at_0 B)
    at_most (suc n) = omega (arith, one_more n B, each n, at_most n)

    missing : (k : ℕ) → count_by (label (suc k)) B ≡ 0 → (n : ℕ) → k < n → count_by (upto n) B < n
    missing k e zero h = absurd (omega arith)
    missing k e (suc n) h = go (cases_eq k n) (missing k e n)
      where
        go : (k ≡ n) ⊎ (k ≡ n → ⊥) → (k < n → count_by (upto n) B < n) → count_by (upto (suc n)) B < suc n
        go (inl s) ih = let P : ℕ → Type 0 = λ m. count_by (label (suc m)) B ≡ 0 in let z : P n = subst P s e in omega (arith, one_more n B, at_most n)
        go (inr s) ih = omega (arith, one_more n B, each n, ih (omega arith))

-- no box is there twice
pub box_at_most_once : (T : List Run) (need : ℕ → ℕ) (B : List Block) → Apart T → Fifo T need B → (v i : ℕ) → 0 < i → count_by (label T need v i) B ≤ 1
box_at_most_once T need B apart fifo v zero h = absurd (omega arith)
box_at_most_once T need B apart fifo v (suc j) h = omega (arith, labels_at T need v j B fifo.boxed, fifo.same (at T need v j), lone leaves_before leaves_irr leaves_trans (λ r. r.number) leaves_tri T apart (λ s. eqb s.from v) j)

box_once : (T : List Run) (need : ℕ → ℕ) (B : List Block) → Needs T need → Apart T → Fifo T need B → (v i : ℕ) → 1 ≤ i → i ≤ need v → count_by (λ b. eqb b.vault v && eqb b.number i) B ≡ 1
box_once T need B needs apart fifo v zero h l = absurd (omega arith)
box_once T need B needs apart fifo v (suc k) h l = go (cases_lt 0 (count_by (label T need v (suc k)) B))
  where
    each : (j : ℕ) → count_by (label T need v (suc j)) B ≤ 1
    each j = box_at_most_once T need B apart fifo v (suc j) (omega arith)

    go : (0 < count_by (label T need v (suc k)) B) ⊎ (count_by (label T need v (suc k)) B ≤ 0) → count_by (label T need v (suc k)) B ≡ 1
    go (inl s) = omega (arith, each k)
    go (inr z) =
        let short = missing T need v B each k (omega arith) (need v) l in
        absurd (omega (arith, sent_upto T need v B fifo.boxed, (fifo_sends_the_need T need B needs apart fifo).1 v))

-- the number of a block's box is from 1 to the need
box_within : (T : List Run) (need : ℕ → ℕ) (v i : ℕ) (c : List Run) → Opens T need v i c → (1 ≤ i) × (i ≤ need v)
box_within T need v i [] o = absurd o
box_within T need v i (r ∷ rs) o = let e = o.1 in (omega arith, o.2)

pub each_box_once : EachBoxOnce
each_box_once T need B needs apart fifo = record {
  once = box_once T need B needs apart fifo;
  no_other = λ b h. box_within T need b.vault b.number b.runs (all-has (Boxed T need) B b fifo.boxed h).opens;
}
