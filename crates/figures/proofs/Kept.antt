-- Members of what a filter keeps and of what a map makes; keys in a stretch.
use Rattle.std.proofs.Common.{◌≡◌, ℕ, Bool, true, false, cond, ◌&&◌, ltb, leb, List, [], ◌∷◌, map, filter, sym, refl, ap, subst, inl, inr}
use Rattle.std.proofs.ByRecursion.{kept_by_passes}
use Rattle.std.proofs.lemmas.Bool.{and_parts, and_from, leb-true, ltb-true, le-leb, lt-ltb}
use Rattle.run.specs.declared.stretch.Stretch.{Stretch}
use Rattle.run.specs.Stretches.{Within}
use Rattle.timetable.proofs.Members.{Mem, all_mem}

pub same_tests : (a b : Bool) → (a ≡ true → b ≡ true) → (b ≡ true → a ≡ true) → a ≡ b
same_tests true b f g = sym (f refl)
same_tests false true f g = g refl
same_tests false false f g = refl

-- is the key in the stretch
abbrev pub in_stretch : Stretch → ℕ → Bool
in_stretch s k = leb s.lo k && ltb k s.hi

pub stretch_within : (s : Stretch) (k : ℕ) → in_stretch s k ≡ true → Within k s
stretch_within s k h = let ps = and_parts (leb s.lo k) (ltb k s.hi) h in (leb-true s.lo k ps.0, ltb-true k s.hi ps.1)

pub within_stretch : (s : Stretch) (k : ℕ) → Within k s → in_stretch s k ≡ true
within_stretch s k w = and_from (leb s.lo k) (ltb k s.hi) (le-leb s.lo k w.0) (lt-ltb k s.hi w.1)

pub mem_kept : {X : Type 0} (p : X → Bool) (xs : List X) (x : X) → Mem x (filter p xs) → Mem x xs
mem_kept p [] x m = absurd m
mem_kept p (y ∷ ys) x m = by (p y) m (mem_kept p ys x)
  where
    by : (b : Bool) → Mem x (cond b (y ∷ filter p ys) (filter p ys)) → (Mem x (filter p ys) → Mem x ys) → Mem x (y ∷ ys)
    by true (inl e) ih = inl e
    by true (inr k) ih = inr (ih k)
    by false k ih = inr (ih k)

pub kept_passes : {X : Type 0} (p : X → Bool) (xs : List X) (x : X) → Mem x (filter p xs) → p x ≡ true
kept_passes p xs x m = all_mem (λ y. p y ≡ true) (filter p xs) x (kept_by_passes p xs) m

pub kept_mem : {X : Type 0} (p : X → Bool) (xs : List X) (x : X) → Mem x xs → p x ≡ true → Mem x (filter p xs)
kept_mem p [] x m h = absurd m
kept_mem p (y ∷ ys) x (inl e) h = subst (λ b. Mem x (cond b (y ∷ filter p ys) (filter p ys))) (sym (subst (λ z. p z ≡ true) (sym e) h)) (inl e)
kept_mem p (y ∷ ys) x (inr m) h = by (p y) (kept_mem p ys x m h)
  where
    by : (b : Bool) → Mem x (filter p ys) → Mem x (cond b (y ∷ filter p ys) (filter p ys))
    by true k = inr k
    by false k = k

pub map_mem : {X Y : Type 0} (f : X → Y) (xs : List X) (x : X) → Mem x xs → Mem (f x) (map f xs)
map_mem f [] x m = absurd m
map_mem f (z ∷ zs) x (inl e) = inl (ap f e)
map_mem f (z ∷ zs) x (inr m) = inr (map_mem f zs x m)

pub mem_map : {X Y : Type 0} (f : X → Y) (xs : List X) (y : Y) → Mem y (map f xs) → (x : X) × Mem x xs × (f x ≡ y)
mem_map f [] y m = absurd m
mem_map f (z ∷ zs) y (inl e) = (z, inl refl, e)
mem_map f (z ∷ zs) y (inr m) = let r = mem_map f zs y m in (r.0, inr r.1, r.2)
