-- Numbers as bytes, lowest byte first; a part of a list, and a list with a part replaced; things in a row.
use Rattle.std.specs.Prelude.{ℕ, zero, suc, ◌+◌, ◌*◌, ◌/◌, ◌%◌, List, [], ◌∷◌, ◌++◌, Bool, true, ◌&&◌, eqb, length, take, drop}

-- the k-byte little-endian form of v
unfoldable pub le : ℕ → ℕ → List ℕ
le zero v = []
le (suc k) v = v % 256 ∷ le k (v / 256)

-- the number that a list of bytes says
unfoldable pub unle : List ℕ → ℕ
unle [] = 0
unle (b ∷ bs) = b + 256 * unle bs

-- the len bytes from at
unfoldable pub part : List ℕ → ℕ → ℕ → List ℕ
part b at len = take len (drop at b)

-- the number of k bytes at `at`; what lies past the end counts as 0
unfoldable pub num : List ℕ → ℕ → ℕ → ℕ
num b at k = unle (part b at k)

-- b with x written over it at `at`
unfoldable pub splice : List ℕ → ℕ → List ℕ → List ℕ
splice b at x = take at b ++ (x ++ drop (at + length x) b)

-- every element is 0
abbrev pub zeros : List ℕ → Bool
zeros [] = true
zeros (b ∷ bs) = eqb b 0 && zeros bs

-- what a function gives for each element, in a row
unfoldable pub flat : {A B : Type 0} → (A → List B) → List A → List B
flat f [] = []
flat f (x ∷ xs) = f x ++ flat f xs

-- what stands at `count` places, from `at` on, each `size` after the one before
unfoldable pub items : {A : Type 0} → (ℕ → A) → ℕ → ℕ → ℕ → List A
items get size at zero = []
items get size at (suc count) = items get size at count ++ (get (at + size * count) ∷ [])
