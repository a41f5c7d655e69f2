-- What an insert and a removal answer and leave, case by case.
use Rattle.std.proofs.Common.{◌≡◌, ℕ, true, false, List, [], ◌∷◌, length, Some, None, Ok, Err, sym, refl, ap, arith}
use Rattle.std.proofs.lemmas.Bool.Decides.{nat_tests}
use Rattle.fault.specs.declared.BookFault.TheVariants.{KeyHeld, Full, NotHeld}
use Rattle.book.specs.Entries.{held, value_of, inserted, removed}
use Rattle.book.specs.Calls.{insert_answer, after_insert, or_not_held, remove_answer}
use Rattle.book.proofs.Edits.{removed_unheld}

module _ {V : Type 0} (k : ℕ) (v : V) (es : List (ℕ × V)) where
  -- the key is held
  pub insert_held : (capacity : ℕ) → held k es ≡ true → (Err KeyHeld ≡ insert_answer capacity k es) × (es ≡ after_insert capacity k v es)
  insert_held capacity h = (grind (arith, nat_tests), grind (arith, nat_tests))

  -- it is not, and there is no room
  pub insert_full : (capacity : ℕ) → held k es ≡ false → length es ≡ capacity → (Err Full ≡ insert_answer capacity k es) × (es ≡ after_insert capacity k v es)
  insert_full capacity h full = (grind (arith, nat_tests), grind (arith, nat_tests))

  -- it is not, and there is room
  pub insert_done : (capacity : ℕ) → held k es ≡ false → (length es ≡ capacity → ⊥) → (Ok tt ≡ insert_answer capacity k es) × (inserted k v es ≡ after_insert capacity k v es)
  insert_done capacity h room = (grind (arith, nat_tests), grind (arith, nat_tests))

  pub remove_done : value_of k es ≡ Some v → Ok v ≡ remove_answer k es
  remove_done h = sym (ap or_not_held h)

pub value_unheld : {V : Type 0} (k : ℕ) (es : List (ℕ × V)) → held k es ≡ false → value_of k es ≡ None
value_unheld k [] h = refl
value_unheld k (e ∷ es) h = grind (arith, nat_tests, value_unheld k es)

pub remove_unheld : {V : Type 0} (k : ℕ) (es : List (ℕ × V)) → held k es ≡ false → (Err NotHeld ≡ remove_answer k es) × (es ≡ removed k es)
remove_unheld k es h = (sym (ap or_not_held (value_unheld k es h)), sym (removed_unheld k es h))
