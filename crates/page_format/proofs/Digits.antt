-- Numbers and their bytes.
use Rattle.std.proofs.Common.{◌≡◌, ℕ, zero, suc, ◌+◌, ◌*◌, ◌/◌, ◌%◌, ◌<◌, ◌≤◌, List, [], ◌∷◌, length, get_or, take, drop, refl, ap, arith, drop-cons}
use Rattle.page_format.specs.Grammar.{two, four}
use Rattle.page_format.specs.Reading.{two_at, four_at}
use Rattle.page_format.specs.Laws.{Bytes}

-- a number comes back from its two bytes, and two bytes from their number
pub two_back : (n : ℕ) → n / 256 * 256 + n % 256 ≡ n
two_back n = omega arith

two_fits : (a b : ℕ) → a < 256 → b < 256 → a * 256 + b < 65536
two_fits a b p q = omega arith

two_is : (a b : ℕ) → a < 256 → b < 256 → two (a * 256 + b) ≡ a ∷ (b ∷ [])
two_is a b p q =
    let x : (a * 256 + b) / 256 ≡ a = omega arith in
    let y : (a * 256 + b) % 256 ≡ b = omega arith in
    cc

-- and so with four bytes
pub four_back : (n : ℕ) → n / 16777216 * 16777216 + n / 65536 % 256 * 65536 + n / 256 % 256 * 256 + n % 256 ≡ n
four_back n = omega arith

four_fits : (a b c d : ℕ) → a < 256 → b < 256 → c < 256 → d < 256 → a * 16777216 + b * 65536 + c * 256 + d < 4294967296
four_fits a b c d p q r s = omega arith

four_is : (a b c d : ℕ) → a < 256 → b < 256 → c < 256 → d < 256 → four (a * 16777216 + b * 65536 + c * 256 + d) ≡ a ∷ (b ∷ (c ∷ (d ∷ [])))
four_is a b c d p q r s =
    let n = a * 16777216 + b * 65536 + c * 256 + d in
    let w : n / 16777216 ≡ a = omega arith in
    let x : n / 65536 % 256 ≡ b = omega arith in
    let y : n / 256 % 256 ≡ c = omega arith in
    let z : n % 256 ≡ d = omega arith in
    cc

-- n bytes of a list, one by one from place k
abbrev pub firsts : (k n : ℕ) → List ℕ → List ℕ
firsts k zero s = []
firsts k (suc n) s = get_or s k 0 ∷ firsts (suc k) n s

firsts_drop : (k n : ℕ) (s : List ℕ) → k + n ≤ length s → firsts k n s ≡ take n (drop k s)
firsts_drop k zero s h = refl
firsts_drop k (suc n) s h =
    let l : k < length s = omega arith in
    rw (drop-cons s k 0 l) (ap (λ v. get_or s k 0 ∷ v) (firsts_drop (suc k) n s (omega arith)))

pub firsts_take : (n : ℕ) (s : List ℕ) → n ≤ length s → firsts 0 n s ≡ take n s
firsts_take n s h = firsts_drop 0 n s (omega arith)

-- each place holds a byte, and past the end it reads as 0
pub byte_at : (s : List ℕ) (i : ℕ) → Bytes s → get_or s i 0 < 256
byte_at [] i h = omega arith
byte_at (b ∷ s) zero h = h.0
byte_at (b ∷ s) (suc i) h = byte_at s i h.1

-- the number at a place fits its bytes, and has those bytes
pub two_at_fits : (s : List ℕ) (i : ℕ) → Bytes s → two_at s i < 65536
two_at_fits s i h = two_fits _ _ (byte_at s i h) (byte_at s (i + 1) h)

pub two_at_is : (s : List ℕ) (i : ℕ) → Bytes s → two (two_at s i) ≡ get_or s i 0 ∷ (get_or s (i + 1) 0 ∷ [])
two_at_is s i h = two_is _ _ (byte_at s i h) (byte_at s (i + 1) h)

pub four_at_fits : (s : List ℕ) (i : ℕ) → Bytes s → four_at s i < 4294967296
four_at_fits s i h = four_fits _ _ _ _ (byte_at s i h) (byte_at s (i + 1) h) (byte_at s (i + 2) h) (byte_at s (i + 3) h)

pub four_at_is : (s : List ℕ) (i : ℕ) → Bytes s → four (four_at s i) ≡ get_or s i 0 ∷ (get_or s (i + 1) 0 ∷ (get_or s (i + 2) 0 ∷ (get_or s (i + 3) 0 ∷ [])))
four_at_is s i h = four_is _ _ _ _ (byte_at s i h) (byte_at s (i + 1) h) (byte_at s (i + 2) h) (byte_at s (i + 3) h)
