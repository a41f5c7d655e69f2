-- Unions of bits.
use Rattle.std.specs.Prelude.{◌≡◌, ℕ, zero, suc, ◌<◌, ◌⊎◌, List, [], ◌∷◌, map, length, bit_or, slice_index}
use Rattle.std.proofs.Common.{ap, inl, inr, ⊎_elim, arith}
use Rattle.std.specs.Int.{bit_at}
use Rattle.std.proofs.lemmas.Bool.{cases_eq}
use Rattle.std.proofs.lemmas.Nat.Bits.{bit_at-zero, bit_at_or, bit_at-lt}
use Rattle.monoid.specs.declared.fittings.Fittings.{Fittings}
use Rattle.monoid.specs.Folds.{total}
use Rattle.monoid.specs.Sets.{set_of, union, Bit}
use Rattle.monoid.specs.Laws.{United, BitsUnited}
use Rattle.monoid.specs.FoldsLemmas.{total_cons}
use Rattle.monoid.specs.SetsLemmas.{left, right, assoc}

-- a bit of a union is that of one side
bit_cases : (i a b : ℕ) → Bit i (bit_or a b) → Bit i a ⊎ Bit i b
bit_cases i a b h = ⊎_elim (λ here. inl here) (λ no. inr (omega (arith, no, bit_at_or a b i, bit_at-lt a i))) (cases_eq (bit_at a i) 1)

bit_left : (i a b : ℕ) → Bit i a → Bit i (bit_or a b)
bit_left i a b h = omega (arith, bit_at_or a b i, bit_at-lt b i)

bit_right : (i a b : ℕ) → Bit i b → Bit i (bit_or a b)
bit_right i a b h = omega (arith, bit_at_or a b i, bit_at-lt a i)

abbrev union_of : List ℕ → ℕ
union_of sets = (total (set_of 0) union (map set_of sets)).0

union_of_cons : (s : ℕ) (sets : List ℕ) → union_of (s ∷ sets) ≡ bit_or s (union_of sets)
union_of_cons s sets = ap (λ (x : Fittings). x.0) (total_cons (set_of 0) union left right assoc (set_of s) (map set_of sets))

united_more : (s : ℕ) (sets : List ℕ) (i : ℕ) → United sets i (union_of sets) → United (s ∷ sets) i (union_of (s ∷ sets))
united_more s sets i rest = record { some = some; all = all }
  where
    some : Bit i (union_of (s ∷ sets)) → (k : ℕ) × (k < suc (length sets)) × Bit i (slice_index (s ∷ sets) k)
    some h = ⊎_elim (λ here. (0, omega arith, here)) (λ there. let f = rest.some there in (suc f.0, omega (arith, f.1), f.2)) (bit_cases i s (union_of sets) (rw (union_of_cons s sets) at h))

    all : (k : ℕ) → k < suc (length sets) → Bit i (slice_index (s ∷ sets) k) → Bit i (union_of (s ∷ sets))
    all zero w h = rw (union_of_cons s sets) (bit_left i s (union_of sets) h)
    all (suc k) w h = rw (union_of_cons s sets) (bit_right i s (union_of sets) (rest.all k (omega arith) h))

united : (sets : List ℕ) (i : ℕ) → United sets i (union_of sets)
united [] i = record { some = λ h. absurd (omega (arith, bit_at-zero i)); all = λ k w h. absurd (omega arith) }
united (s ∷ sets) i = united_more s sets i (united sets i)

pub bits_united : BitsUnited
bits_united sets i _ = united sets i
