-- The total is the least number of boxes that any way can use.
use Rattle.std.proofs.Common.{◌≡◌, ℕ, zero, suc, ◌+◌, ◌<◌, ◌≤◌, eqb, ◌⊎◌, List, [], ◌∷◌, length, refl, ◌∙◌, inl, inr, arith}
use Rattle.std.specs.List.{AllByRecursion as All}
use Rattle.std.proofs.lemmas.List.Sums.{sum_by-cons}
use Rattle.std.proofs.lemmas.List.{length-map}
use Rattle.std.proofs.ByRecursion.{all-has}
use Rattle.std.proofs.lemmas.Bool.Decides.{nat_tests}
use Rattle.run.specs.declared.Run.{Run}
use Rattle.timetable.specs.Levels.{Needs, need_of, sum_of, total}
use Rattle.timetable.specs.Ways.{Chain, runs_of, Way, sends, sent, Apart, Within}
use Rattle.timetable.specs.Fifo.{Block, chains_of, Fifo}
use Rattle.timetable.specs.Laws.{TotalIsTheLeast}
use Rattle.timetable.proofs.Ranks.{one, In, in_head, in_left, in_right}
use Rattle.timetable.proofs.Lower.{none_with_fewer}
use Rattle.timetable.proofs.Members.{in_has}
use Rattle.timetable.proofs.OneNeed.{need_is, total_is_the_sum}
use Rattle.timetable.proofs.Fifo.{fifo_sends_the_need}
use Rattle.timetable.proofs.Build.{all_built}

sum_le_of : (f g : ℕ → ℕ) → ((v : ℕ) → f v ≤ g v) → (k : ℕ) → sum_of f k ≤ sum_of g k
sum_le_of f g h zero = omega arith
sum_le_of f g h (suc k) = omega (arith, h k, sum_le_of f g h k)

sum_same_of : (f g : ℕ → ℕ) → ((v : ℕ) → f v ≡ g v) → (k : ℕ) → sum_of f k ≡ sum_of g k
sum_same_of f g h zero = refl
sum_same_of f g h (suc k) = omega (arith, h k, sum_same_of f g h k)

sum_plus : (f g : ℕ → ℕ) (k : ℕ) → sum_of (λ v. f v + g v) k ≡ sum_of f k + sum_of g k
sum_plus f g zero = refl
sum_plus f g (suc k) = omega (arith, sum_plus f g k)

sum_none : (k : ℕ) → sum_of (λ v. 0) k ≡ 0
sum_none zero = refl
sum_none (suc k) = omega (arith, sum_none k)

-- a vault is one of the vaults below k at most once, and once if it is below k
one_vault : (x k : ℕ) → ((k ≤ x) × (sum_of (λ v. one (eqb x v)) k ≡ 0)) ⊎ ((x < k) × (sum_of (λ v. one (eqb x v)) k ≡ 1))
one_vault x zero = inl (omega arith, refl)
one_vault x (suc k) = go (one_vault x k)
  where
    go : ((k ≤ x) × (sum_of (λ v. one (eqb x v)) k ≡ 0)) ⊎ ((x < k) × (sum_of (λ v. one (eqb x v)) k ≡ 1)) → ((suc k ≤ x) × (sum_of (λ v. one (eqb x v)) (suc k) ≡ 0)) ⊎ ((x < suc k) × (sum_of (λ v. one (eqb x v)) (suc k) ≡ 1))
    go (inl h) = let l = h.0 in let e = h.1 in grind (arith, nat_tests)
    go (inr h) = let l = h.0 in let e = h.1 in inr (omega arith, grind (arith, nat_tests))

sends_once : (k : ℕ) (c : List Run) → sum_of (λ v. one (sends v c)) k ≤ 1
sends_once k [] = omega (arith, sum_none k)
sends_once k (r ∷ rs) = go (one_vault r.from k)
  where
    go : ((k ≤ r.from) × (sum_of (λ v. one (eqb r.from v)) k ≡ 0)) ⊎ ((r.from < k) × (sum_of (λ v. one (eqb r.from v)) k ≡ 1)) → sum_of (λ v. one (eqb r.from v)) k ≤ 1
    go (inl h) = let e = h.1 in omega arith
    go (inr h) = let e = h.1 in omega arith

-- the boxes sent out of the vaults below k are boxes of the way
all_sent : (k : ℕ) (W : List (List Run)) → sum_of (sent W) k ≤ length W
all_sent k [] = omega (arith, sum_none k)
all_sent k (c ∷ W) = omega (
  arith,
  sum_same_of (sent (c ∷ W)) (λ v. one (sends v c) + sent W v) (λ v. sum_by-cons (λ d. one (sends v d)) c W) k,
  sum_plus (λ v. one (sends v c)) (sent W) k,
  sends_once k c,
  all_sent k W,
)

sends_one : (k : ℕ) (c : List Run) → Chain c → ((r : Run) → In c r → r.from < k) → sum_of (λ v. one (sends v c)) k ≡ 1
sends_one k [] h low = absurd h
sends_one k (r ∷ rs) h low = go (one_vault r.from k) (low r (in_head r rs))
  where
    go : ((k ≤ r.from) × (sum_of (λ v. one (eqb r.from v)) k ≡ 0)) ⊎ ((r.from < k) × (sum_of (λ v. one (eqb r.from v)) k ≡ 1)) → r.from < k → sum_of (λ v. one (eqb r.from v)) k ≡ 1
    go (inl h) l = let m = h.0 in absurd (omega arith)
    go (inr h) l = h.1

-- and where every run leaves a vault below k, they are all of them
sent_all : (k : ℕ) (W : List (List Run)) → All Chain W → ((r : Run) → In (runs_of W) r → r.from < k) → sum_of (sent W) k ≡ length W
sent_all k [] h low = sum_none k
sent_all k (c ∷ W) h low = omega (
  arith,
  sum_same_of (sent (c ∷ W)) (λ v. one (sends v c) + sent W v) (λ v. sum_by-cons (λ d. one (sends v d)) c W) k,
  sum_plus (λ v. one (sends v c)) (sent W) k,
  sends_one k c h.0 (λ r i. low r (in_left r c (runs_of W) i)),
  sent_all k W h.1 (λ r i. low r (in_right r c (runs_of W) i)),
)

pub least : (T : List Run) (k : ℕ) (W : List (List Run)) → Way T W → total T k ≤ length W
least T k W way = omega (arith, sum_le_of (need_of T) (sent W) (λ v. none_with_fewer T W way v (need_of T v) (need_is T v)) k, all_sent k W)

pub fifo_uses : (T : List Run) (k : ℕ) (need : ℕ → ℕ) (B : List Block) → Needs T need → Apart T → Within k T → Fifo T need B → length B ≡ total T k
fifo_uses T k need B needs apart within fifo =
    let s = fifo_sends_the_need T need B needs apart fifo in
    let low : (r : Run) → In (runs_of (chains_of B)) r → r.from < k = λ r i. (all-has (λ x. (x.from < k) × (x.to < k)) T r within (in_has T r (λ p. omega (arith, i p, fifo.same p)))).0 in
    omega (
      arith,
      sent_all k (chains_of B) s.0.chains low,
      sum_same_of (sent (chains_of B)) need s.1 k,
      total_is_the_sum T need needs k,
      length-map B (λ b. b.runs),
    )

pub total_is_the_least : TotalIsTheLeast
total_is_the_least T k apart forward within =
    let f = all_built T (need_of T) (need_is T) apart forward in
    let way = (fifo_sends_the_need T (need_of T) f.0 (need_is T) apart f.1).0 in
    record {
      no_fewer = least T k;
      done = (chains_of f.0, way, length-map f.0 (λ b. b.runs) ∙ fifo_uses T k (need_of T) f.0 (need_is T) apart within f.1);
      first_in_first_out = λ need B needs fifo. fifo_uses T k need B needs apart within fifo;
    }
