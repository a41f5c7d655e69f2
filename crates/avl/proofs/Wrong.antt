-- Each wrong wording fails at a small tree.
use Rattle.std.proofs.Common.{◌≡◌, ℕ, zero, suc, refl, arith}
use Rattle.avl.specs.Tree.{Tree, leaf, node, height, count, Balanced, rebalanced, fewest}
use Rattle.avl.specs.Wrong.{OneTurnIsEnough, TurnMendsThree, FewestWhenLoose, Lower, NeighbourTakesThePlace, HeldKeyGoesIn, WrongWordings}

abbrev one : (left right : Tree ℕ) → Tree ℕ
one l r = node 0 0 0 l r

-- the full tree of a height
abbrev full : ℕ → Tree ℕ
full zero = leaf
full (suc h) = one (full h) (full h)

-- the tree with the fewest entries
abbrev sparse : ℕ → Tree ℕ
sparse zero = leaf
sparse (suc zero) = one leaf leaf
sparse (suc (suc h)) = one (sparse (suc h)) (sparse h)

record Sparse (h : ℕ) : Type 0 where
  high : height (sparse h) ≡ h
  balanced : Balanced (sparse h)
  few : count (sparse h) ≡ fewest h

is_sparse : (h : ℕ) → Sparse h
is_sparse zero = record { high = refl; balanced = tt; few = refl }
is_sparse (suc zero) = record { high = refl; balanced = ((omega arith, omega arith), tt, tt); few = refl }
is_sparse (suc (suc h)) =
    let a = is_sparse (suc h) in
    let b = is_sparse h in
    record { high = omega (arith, a.high, b.high); balanced = ((omega (arith, a.high, b.high), omega (arith, a.high, b.high)), a.balanced, b.balanced); few = omega (arith, a.few, b.few) }

-- the left side leans towards the middle
one_turn : OneTurnIsEnough → ⊥
one_turn h = let b = (h (one leaf (one leaf leaf)) leaf is_leaning tt (omega arith) (omega arith)).0 in omega (arith, b.0, b.1)
  where
    is_leaning : Balanced (one leaf (one leaf leaf))
    is_leaning = ((omega arith, omega arith), tt, ((omega arith, omega arith), tt, tt))

full_is_balanced : (h : ℕ) → Balanced (full h)
full_is_balanced zero = tt
full_is_balanced (suc h) = ((omega arith, omega arith), full_is_balanced h, full_is_balanced h)

three_apart : TurnMendsThree → ⊥
unfolding rebalanced
three_apart h = let b = (h (full 3) leaf (full_is_balanced 3) tt (omega arith) (omega arith)).2.0 in omega (arith, b.0, b.1)

-- three nodes, one below the other
loose : FewestWhenLoose → ⊥
loose h = omega (arith, h (one (one (one leaf leaf) leaf) leaf) (omega arith, omega arith, (omega arith, omega arith, (omega arith, omega arith, tt, tt), tt), tt))

-- 1,596 entries are enough for height 15
lower : Lower → ⊥
lower h = let s = is_sparse 15 in omega (arith, s.high, h (sparse 15) s.balanced (omega (arith, s.few)))

-- one node to the left, three to the right
neighbour : NeighbourTakesThePlace → ⊥
neighbour h = let b = (h (full 1) (full 2) (omega arith, omega arith) (full_is_balanced 1) (full_is_balanced 2) 0 0 0).0 in omega (arith, b.0, b.1)

held_key : HeldKeyGoesIn → ⊥
unfolding rebalanced
held_key h = let b = (h 0 0 0 (one leaf leaf) (tt, tt, tt, tt)).1.0 in omega (arith, b)

pub wrong_wordings : WrongWordings
wrong_wordings = record { one_turn = one_turn; three_apart = three_apart; loose = loose; lower = lower; neighbour = neighbour; held_key = held_key }
