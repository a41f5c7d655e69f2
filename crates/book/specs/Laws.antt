-- The laws of entries, for values of a type V: what the definitions of `Entries` are for.
use Rattle.std.specs.Prelude.{◌≡◌, ℕ, ◌+◌, ◌-◌, ◌≤◌, true, false, cond, ◌||◌, ◌⊎◌, ◌↔◌, List, [], length, take, drop, is_some, Some, None, ◌==◌, ◌≢◌}
use Rattle.std.specs.List.{ContainsAt as Has, slice_get}
use Rattle.book.specs.Entries.{ascending, held, value_of, inserted, removed, count_below, between, fold_between}

-- two rising lists with the same members are equal
abbrev pub MembersFixTheList : Type 0 → Type 0
MembersFixTheList V = (xs ys : List (ℕ × V)) → ascending xs ≡ true → ascending ys ≡ true → ((e : ℕ × V) → Has xs e ↔ Has ys e) → xs ≡ ys

-- an insert at a key that is not held adds one entry and nothing else
pub record InsertAddsOne (V : Type 0) : Type 0 where
  pub order : (k : ℕ) (v : V) (es : List (ℕ × V)) → ascending es ≡ true → held k es ≡ false → ascending (inserted k v es) ≡ true
  pub members : (k : ℕ) (v : V) (es : List (ℕ × V)) (e : ℕ × V) → Has (inserted k v es) e ↔ (((k, v) ≡ e) ⊎ Has es e)
  pub count : (k : ℕ) (v : V) (es : List (ℕ × V)) → length (inserted k v es) ≡ length es + 1
  pub keys : (j k : ℕ) (v : V) (es : List (ℕ × V)) → held j (inserted k v es) ≡ (k == j || held j es)
  pub lookups : (j k : ℕ) (v : V) (es : List (ℕ × V)) → held k es ≡ false → value_of j (inserted k v es) ≡ cond (k == j) (Some v) (value_of j es)

-- a removal takes out the entry at its key and nothing else
pub record RemoveTakesOne (V : Type 0) : Type 0 where
  pub order : (k : ℕ) (es : List (ℕ × V)) → ascending es ≡ true → ascending (removed k es) ≡ true
  pub members : (k : ℕ) (es : List (ℕ × V)) (e : ℕ × V) → ascending es ≡ true → Has (removed k es) e ↔ (Has es e × (e.0 ≢ k))
  pub count : (k : ℕ) (es : List (ℕ × V)) → held k es ≡ true → length (removed k es) + 1 ≡ length es
  pub unheld : (k : ℕ) (es : List (ℕ × V)) → held k es ≡ false → removed k es ≡ es
  pub lookups : (j k : ℕ) (es : List (ℕ × V)) → ascending es ≡ true → value_of j (removed k es) ≡ cond (k == j) None (value_of j es)

-- edits at different keys commute
pub record EditsCommute (V : Type 0) : Type 0 where
  pub inserts : (j k : ℕ) (v w : V) (es : List (ℕ × V)) → (j ≢ k) → inserted j v (inserted k w es) ≡ inserted k w (inserted j v es)
  pub removes : (j k : ℕ) (es : List (ℕ × V)) → (j ≢ k) → removed j (removed k es) ≡ removed k (removed j es)
  pub insert_and_remove : (j k : ℕ) (v : V) (es : List (ℕ × V)) → ascending es ≡ true → (j ≢ k) → removed k (inserted j v es) ≡ inserted j v (removed k es)

-- a removal undoes an insert
abbrev pub RemoveUndoesInsert : Type 0 → Type 0
RemoveUndoesInsert V = (k : ℕ) (v : V) (es : List (ℕ × V)) → held k es ≡ false → removed k (inserted k v es) ≡ es

-- an entry's place is the number of keys below its own
pub record PlacesCountKeys (V : Type 0) : Type 0 where
  pub of_place : (es : List (ℕ × V)) (n : ℕ) (e : ℕ × V) → ascending es ≡ true → slice_get es n ≡ Some e → count_below e.0 es ≡ n
  pub of_key : (k : ℕ) (v : V) (es : List (ℕ × V)) → ascending es ≡ true → value_of k es ≡ Some v → slice_get es (count_below k es) ≡ Some (k, v)
  pub held_has_value : (k : ℕ) (es : List (ℕ × V)) → held k es ≡ is_some (value_of k es)

-- a stretch of keys is a stretch of places
pub record BetweenIsAStretch (V : Type 0) : Type 0 where
  pub places : (lo hi : ℕ) (es : List (ℕ × V)) → ascending es ≡ true → lo ≤ hi → between lo hi es ≡ take (count_below hi es - count_below lo es) (drop (count_below lo es) es)
  pub none : (lo hi : ℕ) (es : List (ℕ × V)) → hi ≤ lo → between lo hi es ≡ []

-- a fold over a stretch splits at any key within, for any unit and associative join
abbrev pub FoldsSplit : Type 0 → Type 0
FoldsSplit V = (unit : V) (join : V → V → V) → ((x : V) → join unit x ≡ x) → ((x : V) → join x unit ≡ x) → ((x y z : V) → join (join x y) z ≡ join x (join y z)) → (lo mid hi : ℕ) (es : List (ℕ × V)) → ascending es ≡ true → lo ≤ mid → mid ≤ hi → join (fold_between unit join lo mid es) (fold_between unit join mid hi es) ≡ fold_between unit join lo hi es
