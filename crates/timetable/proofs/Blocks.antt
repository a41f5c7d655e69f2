-- Neighbours in a block are links, walking gives the block, and the blocks are fixed.
use Rattle.std.proofs.Common.{◌≡◌, ℕ, zero, suc, ◌+◌, ◌≤◌, Bool, true, eqb, ◌⊎◌, List, [], ◌∷◌, length, get_or, Some, None, sum_by, count_by, Option, sym, refl, ap, ◌∙◌, subst, inl, inr, arith}
use Rattle.std.specs.List.{ContainsAt as Has, AllByRecursion as All}
use Rattle.std.proofs.lemmas.List.Sums.{sum_by-cons, sum_by-append}
use Rattle.std.proofs.lemmas.Bool.{cases_eq, eq-eqb}
use Rattle.std.proofs.lemmas.Bool.Decides.{nat_tests}
use Rattle.run.specs.declared.Run.{Run}
use Rattle.timetable.specs.Ways.{runs_of, Apart}
use Rattle.timetable.specs.Fifo.{box, brought_by, Before, After, Block, Opens, Linked, Boxed, chains_of, Fifo, printed_before, SheetOrder}
use Rattle.timetable.specs.Links.{Next, First, Walked, walk, NeighboursAreLinks, WalkingGivesTheBlock, BlocksAreFixed, Nth, Stands, EachRunOnce}
use Rattle.timetable.proofs.Queues.{count_all}
use Rattle.timetable.proofs.Ranks.{one, all_of}
use Rattle.timetable.proofs.Members.{by_block, has_in, in_has, Mem, has_mem, mem_has, mem_append, mem_left, mem_right, all_mem, mem_all, mem_le}
use Rattle.timetable.proofs.Ordering.{Strict, same_strict}
use Rattle.timetable.proofs.Takes.{takes_of, before_of}
use Rattle.timetable.proofs.Links.{same_before, same_after}

-- how many of a list's runs but the last pass, and whether the last does
abbrev mids : (Run → Bool) → List Run → ℕ
mids p [] = 0
mids p (r ∷ []) = 0
mids p (r ∷ s ∷ rs) = one (p r) + mids p (s ∷ rs)

abbrev ends : (Run → Bool) → List Run → ℕ
ends p [] = 0
ends p (r ∷ []) = one (p r)
ends p (r ∷ s ∷ rs) = ends p (s ∷ rs)

mids_ends : (p : Run → Bool) (c : List Run) → count_by p c ≡ mids p c + ends p c
mids_ends p [] = refl
mids_ends p (r ∷ []) = refl
mids_ends p (r ∷ s ∷ rs) = omega (arith, sum_by-cons (λ x. one (p x)) r (s ∷ rs), mids_ends p (s ∷ rs))

all_mids_ends : (p : Run → Bool) (B : List Block) → count_by p (runs_of (chains_of B)) ≡ sum_by (λ b. mids p b.runs) B + sum_by (λ b. ends p b.runs) B
all_mids_ends p [] = refl
all_mids_ends p (b ∷ B) = omega (
  arith,
  sum_by-append (λ x. one (p x)) b.runs (runs_of (chains_of B)),
  sum_by-cons (λ c. mids p c.runs) b B,
  sum_by-cons (λ c. ends p c.runs) b B,
  mids_ends p b.runs,
  all_mids_ends p B,
)

next_mid : (p : Run → Bool) (r s : Run) (c : List Run) → Next r s c → one (p r) ≤ mids p c
next_mid p r s [] n = absurd n
next_mid p r s (x ∷ []) n = absurd n
next_mid p r s (x ∷ y ∷ zs) (inl e) = omega (arith, ap (λ z. one (p z)) e.0)
next_mid p r s (x ∷ y ∷ zs) (inr n) = omega (arith, next_mid p r s (y ∷ zs) n)

-- the last run of a list has the property
abbrev EndsIn : (Run → Type 0) → List Run → Type 0
EndsIn P [] = ⊥
EndsIn P (r ∷ []) = P r
EndsIn P (r ∷ s ∷ rs) = EndsIn P (s ∷ rs)

ends_in : (P : Run → Type 0) (c : List Run) → (c ≡ [] → ⊥) → ((z : Run) → ((p : Run → Bool) → one (p z) ≤ ends p c) → P z) → EndsIn P c
ends_in P [] ne h = ne refl
ends_in P (r ∷ []) ne h = h r (λ p. omega arith)
ends_in P (r ∷ s ∷ rs) ne h = ends_in P (s ∷ rs) (λ e. let z : ◌≡◌ {A = ℕ} 1 0 = ap (λ xs. cut xs) e in omega arith) h
  where
    cut : List Run → ℕ
    cut [] = 0
    cut (x ∷ xs) = 1

-- what is in a list is its first or comes right after another
first_or_next : (s : Run) (c : List Run) → Mem s c → First s c ⊎ ((r : Run) × Next r s c)
first_or_next s [] m = absurd m
first_or_next s (x ∷ []) (inl e) = inl e
first_or_next s (x ∷ []) (inr m) = absurd m
first_or_next s (x ∷ y ∷ zs) (inl e) = inl e
first_or_next s (x ∷ y ∷ zs) (inr m) = go (first_or_next s (y ∷ zs) m)
  where
    go : First s (y ∷ zs) ⊎ ((r : Run) × Next r s (y ∷ zs)) → First s (x ∷ y ∷ zs) ⊎ ((r : Run) × Next r s (x ∷ y ∷ zs))
    go (inl e) = inr (x, inl (refl, e))
    go (inr n) = inr (n.0, inr n.1)

-- the block of a run
in_block : (B : List Block) (s : Run) → Mem s (runs_of (chains_of B)) → (b : Block) × Mem b B × Mem s b.runs
in_block [] s m = absurd m
in_block (b ∷ B) s m = go (mem_append b.runs (runs_of (chains_of B)) s m) (in_block B s)
  where
    go : Mem s b.runs ⊎ Mem s (runs_of (chains_of B)) → (Mem s (runs_of (chains_of B)) → (c : Block) × Mem c B × Mem s c.runs) → (c : Block) × Mem c (b ∷ B) × Mem s c.runs
    go (inl a) ih = (b, inl refl, a)
    go (inr r) ih = let f = ih r in (f.0, inr f.1, f.2)

of_block : (B : List Block) (b : Block) (s : Run) → Mem b B → Mem s b.runs → Mem s (runs_of (chains_of B))
of_block [] b s m k = absurd m
of_block (c ∷ B) b s (inl e) k = mem_left c.runs (runs_of (chains_of B)) s (subst (λ d. Mem s d.runs) (sym e) k)
of_block (c ∷ B) b s (inr m) k = mem_right c.runs (runs_of (chains_of B)) s (of_block B b s m k)

first_mem : (r : Run) (c : List Run) → First r c → Mem r c
first_mem r [] f = absurd f
first_mem r (x ∷ xs) f = inl f

next_mem : (r s : Run) (c : List Run) → Next r s c → Mem r c × Mem s c
next_mem r s [] n = absurd n
next_mem r s (x ∷ []) n = absurd n
next_mem r s (x ∷ y ∷ zs) (inl e) = (inl e.0, inr (inl e.1))
next_mem r s (x ∷ y ∷ zs) (inr n) = let k = next_mem r s (y ∷ zs) n in (inr k.0, inr k.1)

module _ (T : List Run) (need : ℕ → ℕ) where
  first_box : (v i : ℕ) (r : Run) (c : List Run) → Opens T need v i c → First r c → Before T need r (box v i)
  first_box v i r [] o f = absurd f
  first_box v i r (x ∷ xs) o f = subst (λ z. Before T need z (box v i)) f o

  next_link : (r s : Run) (c : List Run) → Linked T need c → Next r s c → Before T need s (brought_by r)
  next_link r s [] l n = absurd n
  next_link r s (x ∷ []) l n = absurd n
  next_link r s (x ∷ y ∷ zs) l (inl e) = subst (λ z. Before T need z (brought_by r)) e.1 (subst (λ z. Before T need y (brought_by z)) e.0 l.0)
  next_link r s (x ∷ y ∷ zs) l (inr n) = next_link r s (y ∷ zs) l.1 n

  -- a chain whose last run has none after it is a walk
  walk_of : (r : Run) (rs : List Run) → Linked T need (r ∷ rs) → All (Has T) (r ∷ rs) → EndsIn (λ z. After T need z None) (r ∷ rs) → Walked T need r rs
  walk_of r [] l h e = e
  walk_of r (s ∷ rs) l h e = ((h.1.0, takes_of T need r s l.0), walk_of s rs l.1 h.1 e)

  walk_has : (next : Run → Option Run) (r : Run) (rs : List Run) → ((x : Run) → Has T x → After T need x (next x)) → Apart T → Has T r → Walked T need r rs → (n : ℕ) → length (r ∷ rs) ≤ n → walk next n (Some r) ≡ r ∷ rs
  walk_has next r [] h apart hr w zero l = absurd (omega arith)
  walk_has next r [] h apart hr w (suc n) l = ap (λ xs. r ∷ xs) (ap (walk next n) (same_after T need apart r (next r) None (h r hr) w) ∙ stop n)
    where
      stop : (n : ℕ) → walk next n None ≡ []
      stop zero = refl
      stop (suc n) = refl
  walk_has next r (s ∷ rs) h apart hr w zero l = absurd (omega arith)
  walk_has next r (s ∷ rs) h apart hr w (suc n) l = ap (λ xs. r ∷ xs) (ap (walk next n) (same_after T need apart r (next r) (Some s) (h r hr) w.0) ∙ walk_has next s rs h apart w.0.0 w.1 n (omega arith))

  same_walk : Apart T → (r : Run) (rs ss : List Run) → Walked T need r rs → Walked T need r ss → rs ≡ ss
  same_walk apart r [] [] a b = refl
  same_walk apart r [] (s ∷ ss) a b = absurd (a s b.0.0 b.0.1)
  same_walk apart r (s ∷ rs) [] a b = absurd (b s a.0.0 a.0.1)
  same_walk apart r (s ∷ rs) (z ∷ ss) a b =
      let e : Some s ≡ Some z = same_after T need apart r (Some s) (Some z) a.0 b.0 in
      let f : s ≡ z = cc in
      let w : Walked T need s ss = subst (λ x. Walked T need x ss) (sym f) b.1 in
      λ i. f i ∷ same_walk apart s rs ss a.1 w i

  module _ (B : List Block) (apart : Apart T) (fifo : Fifo T need B) where
    has_of : (s : Run) → Mem s (runs_of (chains_of B)) → Has T s
    has_of s m = in_has T s (λ p. omega (arith, mem_le (λ x. one (p x)) (runs_of (chains_of B)) s m, fifo.same p))

    is_in : (s : Run) → Has T s → Mem s (runs_of (chains_of B))
    is_in s h = has_mem (runs_of (chains_of B)) s (in_has (runs_of (chains_of B)) s (λ p. omega (arith, has_in T s h p, fifo.same p)))

    boxed_of : (b : Block) → Mem b B → Boxed T need b
    boxed_of b m = all_mem (Boxed T need) B b fifo.boxed m

    -- a run that takes a box that another brought comes right after that one in a block
    found_next : (r s : Run) → Has T s → Before T need s (brought_by r) → (b : Block) × Mem b B × Next r s b.runs
    found_next r s h bef = go (first_or_next s b.runs f.2)
      where
        f : (b : Block) × Mem b B × Mem s b.runs
        f = in_block B s (is_in s h)

        b : Block
        b = f.0

        go : First s b.runs ⊎ ((q : Run) × Next q s b.runs) → (b : Block) × Mem b B × Next r s b.runs
        go (inl e) =
            let o = first_box b.vault b.number s b.runs (boxed_of b f.1).opens e in
            let c : box b.vault b.number ≡ brought_by r = same_before T need apart s (box b.vault b.number) (brought_by r) o bef in
            let z : ◌≡◌ {A = ℕ} 0 1 = cc in
            absurd (omega arith)
        go (inr n) =
            let q = n.0 in
            let c : brought_by q ≡ brought_by r = same_before T need apart s (brought_by q) (brought_by r) (next_link q s b.runs (boxed_of b f.1).linked n.1) bef in
            let e : q ≡ r = cc in
            (b, f.1, subst (λ x. Next x s b.runs) e n.1)

    -- a run that takes a box out is the first of that box's block
    found_first : (r : Run) (v i : ℕ) → Has T r → Before T need r (box v i) → (b : Block) × Mem b B × (b.vault ≡ v) × (b.number ≡ i) × First r b.runs
    found_first r v i h bef = go (first_or_next r b.runs f.2)
      where
        f : (b : Block) × Mem b B × Mem r b.runs
        f = in_block B r (is_in r h)

        b : Block
        b = f.0

        go : First r b.runs ⊎ ((q : Run) × Next q r b.runs) → (b : Block) × Mem b B × (b.vault ≡ v) × (b.number ≡ i) × First r b.runs
        go (inl e) =
            let c : box b.vault b.number ≡ box v i = same_before T need apart r (box b.vault b.number) (box v i) (first_box b.vault b.number r b.runs (boxed_of b f.1).opens e) bef in
            let x : b.vault ≡ v = cc in
            let y : b.number ≡ i = cc in
            (b, f.1, x, y, e)
        go (inr n) =
            let q = n.0 in
            let c : brought_by q ≡ box v i = same_before T need apart r (brought_by q) (box v i) (next_link q r b.runs (boxed_of b f.1).linked n.1) bef in
            let z : ◌≡◌ {A = ℕ} 0 1 = cc in
            absurd (omega arith)

    -- none comes after the last run of a block
    last_none : (b : Block) → Mem b B → (z : Run) → ((p : Run → Bool) → one (p z) ≤ ends p b.runs) → After T need z None
    last_none b m z h s hs t =
        let p : Run → Bool = λ x. eqb x.number z.number in
        let o : one (p z) ≡ 1 = ap one (eq-eqb z.number z.number refl) in
        let hz : Has T z = in_has T z (λ q. omega (arith, fifo.same q, all_mids_ends q B, h q, mem_le (λ c. ends q c.runs) B b m)) in
        let f = found_next z s hs (before_of T need z s hz t) in
        omega (
          arith,
          apart z.number,
          fifo.same p,
          all_mids_ends p B,
          h p,
          mem_le (λ c. ends p c.runs) B b m,
          next_mid p z s f.0.runs f.2,
          mem_le (λ c. mids p c.runs) B f.0 f.1,
        )

    not_empty : (v i : ℕ) (c : List Run) → Opens T need v i c → c ≡ [] → ⊥
    not_empty v i c o e = subst (λ x. Opens T need v i x) e o

    block_walk : (b : Block) → Mem b B → (r : Run) (rs : List Run) → b.runs ≡ r ∷ rs → Walked T need r rs
    block_walk b m r rs e =
        let P : List Run → Type 0 = λ c. Linked T need c in
        let A : List Run → Type 0 = λ c. All (Has T) c in
        let E : List Run → Type 0 = λ c. EndsIn (λ z. After T need z None) c in
        let last = ends_in (λ z. After T need z None) b.runs (not_empty b.vault b.number b.runs (boxed_of b m).opens) (last_none b m) in
        walk_of r rs (subst P e (boxed_of b m).linked) (subst A e (mem_all (Has T) b.runs (λ x k. has_of x (of_block B b x m k)))) (subst E e last)

    fits : (b : Block) → Mem b B → length b.runs ≤ length T
    fits b m =
        let all : Run → Bool = λ _. true in
        let yes : (xs : List Run) → count_by all xs ≡ length xs = λ xs. count_all all xs (all_of (λ x. all x ≡ true) (λ x. refl) xs) in
        omega (arith, yes b.runs, yes T, fifo.same all, all_mids_ends all B, mids_ends all b.runs, mem_le (λ c. mids all c.runs) B b m, mem_le (λ c. ends all c.runs) B b m)

pub neighbours_are_links : NeighboursAreLinks
neighbours_are_links T need B apart fifo = record {
  neighbours = λ b h r s n.
      let m = has_mem B b h in
      (has_of T need B apart fifo s (of_block B b s m (next_mem r s b.runs n).1), takes_of T need r s (next_link T need r s b.runs (boxed_of T need B apart fifo b m).linked n));
  links = λ r s hr a. let f = found_next T need B apart fifo r s a.0 (before_of T need r s hr a.1) in (f.0, mem_has B f.0 f.1, f.2);
  firsts = λ b h r f. first_box T need b.vault b.number r b.runs (boxed_of T need B apart fifo b (has_mem B b h)).opens f;
  boxes = λ r v i h bef. let f = found_first T need B apart fifo r v i h bef in (f.0, mem_has B f.0 f.1, f.2, f.3, f.4);
}

-- a list that begins with r
begun : (r : Run) (c : List Run) → First r c → (rs : List Run) × (c ≡ r ∷ rs)
begun r [] f = absurd f
begun r (x ∷ xs) f = (xs, ap (λ z. z ∷ xs) f)

pub walking_gives_the_block : WalkingGivesTheBlock
walking_gives_the_block T need B apart fifo b h r f =
    let m = has_mem B b h in
    let g = begun r b.runs f in
    let w = block_walk T need B apart fifo b m in
    let short = fits T need B apart fifo b m in
    record {
      walked = w r;
      steps = short;
      computed = λ next after. walk_has T need next r g.0 after apart (has_of T need B apart fifo r (of_block B b r m (first_mem r b.runs f))) (w r g.0 g.1) (length T) (omega (arith, ap length g.1)) ∙ sym g.1;
    }

strict : (B : List Block) → SheetOrder B → Strict printed_before B
strict [] s = tt
strict (b ∷ B) s = (s.0, strict B s.1)

-- a block of one list is a block of the other
other_has : (T : List Run) (need : ℕ → ℕ) (B C : List Block) → Apart T → Fifo T need B → Fifo T need C → (b : Block) → Mem b B → Mem b C
other_has T need B C apart fB fC b m = go b.runs refl
  where
    go : (c : List Run) → b.runs ≡ c → Mem b C
    go [] e = absurd (not_empty T need B apart fB b.vault b.number b.runs (boxed_of T need B apart fB b m).opens e)
    go (r ∷ rs) e =
        let fst : First r b.runs = subst (λ x. First r x) (sym e) refl in
        let bef = first_box T need b.vault b.number r b.runs (boxed_of T need B apart fB b m).opens fst in
        let hr = has_of T need B apart fB r (of_block B b r m (first_mem r b.runs fst)) in
        let f = found_first T need C apart fC r b.vault b.number hr bef in
        let c = f.0 in
        let g = begun r c.runs f.4 in
        let same = same_walk T need apart r rs g.0 (block_walk T need B apart fB b m r rs e) (block_walk T need C apart fC c f.1 r g.0 g.1) in
        let runs_same : c.runs ≡ b.runs = g.1 ∙ ap (λ xs. r ∷ xs) (sym same) ∙ sym e in
        let eq : c ≡ b = λ i. record { vault = f.2 i; number = f.3 i; runs = runs_same i } in
        subst (λ x. Mem x C) eq f.1

pub blocks_are_fixed : BlocksAreFixed
blocks_are_fixed T need B C apart fB fC sB sC = same_strict printed_before (λ b. grind (arith, nat_tests)) (λ b c e. grind (arith, nat_tests)) B C (strict B sB) (strict C sC) (other_has T need B C apart fB fC) (other_has T need C B apart fC fB)

-- two places of a list
two_places : {X : Type 0} (f : X → ℕ) (xs : List X) (j m : ℕ) (x y : X) → Nth xs j x → Nth xs m y → (j ≡ m → ⊥) → f x + f y ≤ sum_by f xs
two_places f [] j m x y a b ne = absurd (let l = a.0 in omega arith)
two_places f (z ∷ xs) zero zero x y a b ne = absurd (ne refl)
two_places f (z ∷ xs) zero (suc m) x y a b ne =
    let l = b.0 in
    omega (arith, sum_by-cons f z xs, ap f (a.1 x), mem_le f xs y (has_mem xs y (m, omega arith, b.1)))
two_places f (z ∷ xs) (suc j) zero x y a b ne =
    let l = a.0 in
    omega (arith, sum_by-cons f z xs, ap f (b.1 y), mem_le f xs x (has_mem xs x (j, omega arith, a.1)))
two_places f (z ∷ xs) (suc j) (suc m) x y a b ne =
    let k = a.0 in
    let l = b.0 in
    omega (arith, sum_by-cons f z xs, two_places f xs j m x y (omega arith, a.1) (omega arith, b.1) (λ e. ne (ap suc e)))

nth_mem : {X : Type 0} (xs : List X) (k : ℕ) (x : X) → Nth xs k x → Mem x xs
nth_mem xs k x h = has_mem xs x (k, h.0, h.1)

pub each_run_once : EachRunOnce
each_run_once T need B apart fifo = record { stands = stands; once = once; no_other = λ r j k s. has_of T need B apart fifo r (of_block B s.0 r (nth_mem B j s.0 s.1) (nth_mem s.0.runs k r s.2)) }
  where
    stands : (r : Run) → Has T r → (j : ℕ) × (k : ℕ) × Stands B r j k
    stands r h =
        let f = in_block B r (is_in T need B apart fifo r h) in
        let b = f.0 in
        let x = mem_has B b f.1 in
        let y = mem_has b.runs r f.2 in
        (x.0, y.0, (b, (x.1, x.2), (y.1, y.2)))

    once : (r : Run) (j k m n : ℕ) → Stands B r j k → Stands B r m n → (j ≡ m) × (k ≡ n)
    once r j k m n s t = go (cases_eq j m) (cases_eq k n)
      where
        p : Run → Bool
        p = λ x. eqb x.number r.number

        self : one (p r) ≡ 1
        self = ap one (eq-eqb r.number r.number refl)

        few : sum_by (λ b. count_by p b.runs) B ≤ 1
        few = omega (arith, by_block p B, fifo.same p, apart r.number)

        here : 1 ≤ count_by p s.0.runs
        here = omega (arith, self, mem_le (λ x. one (p x)) s.0.runs r (nth_mem s.0.runs k r s.2))

        there : 1 ≤ count_by p t.0.runs
        there = omega (arith, self, mem_le (λ x. one (p x)) t.0.runs r (nth_mem t.0.runs n r t.2))

        go : (j ≡ m) ⊎ (j ≡ m → ⊥) → (k ≡ n) ⊎ (k ≡ n → ⊥) → (j ≡ m) × (k ≡ n)
        go (inr ne) q = absurd (omega (arith, few, here, there, two_places (λ b. count_by p b.runs) B j m s.0 t.0 s.1 t.1 ne))
        go (inl e) (inl f) = (e, f)
        go (inl e) (inr ne) =
            let P : ℕ → Type 0 = λ i. get_or B i s.0 ≡ t.0 in
            let eq : s.0 ≡ t.0 = sym (s.1.1 s.0) ∙ subst P (sym e) (t.1.1 s.0) in
            let t2 : Nth s.0.runs n r = subst (λ b. Nth b.runs n r) (sym eq) t.2 in
            absurd (omega (arith, few, self, mem_le (λ b. count_by p b.runs) B s.0 (nth_mem B j s.0 s.1), two_places (λ x. one (p x)) s.0.runs k n r r s.2 t2 ne))
