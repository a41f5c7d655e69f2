-- What a book holds: a list of entries, each a key and a value.
use Rattle.std.specs.Prelude.{ℕ, Bool, true, false, cond, ◌&&◌, ◌||◌, List, [], ◌∷◌, map, Some, None, count_by, filter, Option, ◌==◌, nat_le, nat_lt}
use Rattle.monoid.specs.Folds.{total}

-- in strictly rising key; a test, so that a type's invariant can state it
abbrev pub above : {V : Type 0} → ℕ → List (ℕ × V) → Bool
above k [] = true
above k (e ∷ es) = nat_lt k e.0

abbrev pub ascending : {V : Type 0} → List (ℕ × V) → Bool
ascending [] = true
ascending (e ∷ es) = above e.0 es && ascending es

-- has some entry the key
abbrev pub held : {V : Type 0} → ℕ → List (ℕ × V) → Bool
held k [] = false
held k (e ∷ es) = e.0 == k || held k es

-- the value at a key
abbrev pub value_of : {V : Type 0} → ℕ → List (ℕ × V) → Option V
value_of k [] = None
value_of k (e ∷ es) = cond (e.0 == k) (Some e.1) (value_of k es)

-- the entries with one more, before the first whose key is greater
abbrev pub inserted : {V : Type 0} → ℕ → V → List (ℕ × V) → List (ℕ × V)
inserted k v [] = (k, v) ∷ []
inserted k v (e ∷ es) = cond (nat_lt k e.0) ((k, v) ∷ e ∷ es) (e ∷ inserted k v es)

-- the entries without the one at a key
abbrev pub removed : {V : Type 0} → ℕ → List (ℕ × V) → List (ℕ × V)
removed k [] = []
removed k (e ∷ es) = cond (e.0 == k) es (e ∷ removed k es)

-- how many keys are less than k
abbrev pub count_below : {V : Type 0} → ℕ → List (ℕ × V) → ℕ
count_below k es = count_by (λ e. nat_lt e.0 k) es

-- the entries with lo ≤ key < hi
abbrev pub between : {V : Type 0} → ℕ → ℕ → List (ℕ × V) → List (ℕ × V)
between lo hi es = filter (λ e. nat_le lo e.0 && nat_lt e.0 hi) es

abbrev pub values : {V : Type 0} → List (ℕ × V) → List V
values es = map (λ e. e.1) es

-- the values with lo ≤ key < hi, joined from left to right
abbrev pub fold_between : {V : Type 0} → V → (V → V → V) → ℕ → ℕ → List (ℕ × V) → V
fold_between unit join lo hi es = total unit join (values (between lo hi es))
