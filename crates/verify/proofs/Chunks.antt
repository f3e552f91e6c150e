-- Entries as chunks of 24 bytes: what `chunks_exact` gives of them. Assumes nothing.
use Prim.Native.Nat.{ℕ, suc, ◌+◌, ◌-◌, ◌*◌, ◌/◌, ◌≤◌, ◌<◌}
use mathlib.Core.Path.{◌≡◌, refl, ap, ◌∙◌}
use mathlib.Core.List.{List, ◌∷◌, ◌++◌}
use native.Mathlib.Omega.{arith}
use native.Mathlib.Nat.{zero-add}
use lib.ListN.{length, length-append}
use denote.Ref.{Bor}
use Rattle.std.proofs.lemmas.Iterator.{YieldsList}
use Rattle.std.proofs.lemmas.Iterator.Splits.{YieldsList-from_shown_while}
use Rattle.std.proofs.lemmas.Iterator.Consumers.{YieldsList-turn}
use Rattle.std.specs.Iterator.{Yields}
use Rattle.std.specs.Slice.Iter.{chunks_exact_rest, chunks_exact_size, chunks_exact_steps}
use Rattle.std.specs.declared.option.Option.TheVariants.{Some}
use Rattle.octets.specs.Bytes.{num, items}
use Rattle.octets.proofs.Laws.{part_front, part_past}
use Rattle.octets.proofs.Codecs.{items_cons, items_shift, length_items, get_or_items}
use Rattle.rules.specs.Read.{entry_at}
use Rattle.rules.specs.declared.Entry.{Entry}

-- the entries in bytes
abbrev rows_of : List ℕ → List Entry
rows_of b = items (entry_at b) 24 0 (length b / 24)

-- a number, an entry and the entries in x and then r
num_front : (x r : List ℕ) (i n : ℕ) → i + n ≤ length x → num (x ++ r) i n ≡ num x i n
unfolding num
num_front x r i n h = rw (part_front x r i n h)

num_past : (x r : List ℕ) (i n : ℕ) → length x ≤ i → num (x ++ r) i n ≡ num r (i - length x) n
unfolding num
num_past x r i n h = rw (part_past x r (length x) i n refl h)

entry_front : (x r : List ℕ) → length x ≡ 24 → entry_at (x ++ r) 0 ≡ entry_at x 0
unfolding entry_at
entry_front x r e = rw (num_front x r 0 8 (omega arith), num_front x r (0 + 8) 8 (omega arith), num_front x r (0 + 16) 4 (omega arith), num_front x r (0 + 20) 2 (omega arith), num_front x r (0 + 22) 2 (omega arith))

entry_past : (x r : List ℕ) (a b : ℕ) → length x ≡ 24 → a ≡ 24 + b → entry_at (x ++ r) a ≡ entry_at r b
unfolding entry_at
entry_past x r a b e f =
    let z : a - length x ≡ b = omega arith in
    let z8 : a + 8 - length x ≡ b + 8 = omega arith in
    let z16 : a + 16 - length x ≡ b + 16 = omega arith in
    let z20 : a + 20 - length x ≡ b + 20 = omega arith in
    let z22 : a + 22 - length x ≡ b + 22 = omega arith in
    rw (num_past x r a 8 (omega arith), num_past x r (a + 8) 8 (omega arith), num_past x r (a + 16) 4 (omega arith), num_past x r (a + 20) 2 (omega arith), num_past x r (a + 22) 2 (omega arith), z, z8, z16, z20, z22)

rows_next : (x r : List ℕ) → length x ≡ 24 → rows_of (x ++ r) ≡ entry_at x 0 ∷ rows_of r
rows_next x r e =
    let n : length (x ++ r) / 24 ≡ suc (length r / 24) = omega (arith, length-append x r) in
    rw (n, items_cons) (rw (entry_front x r e, items_shift (entry_at (x ++ r)) (entry_at r) 24 24 0 (length r / 24) (λ i _. entry_past x r (24 + 24 * i) (0 + 24 * i) e (omega arith))))

-- the entries that the chunks are
chunked : {s : _} → chunks_exact_size s ≡ 24 → YieldsList (chunks_exact_steps {A = ℕ}) (λ (x : Bor (List ℕ)). entry_at x.now 0) s (rows_of (chunks_exact_rest s))
chunked {s} e =
    YieldsList-from_shown_while (chunks_exact_steps {A = ℕ}) (λ (x : Bor (List ℕ)). entry_at x.now 0) (λ s. rows_of (chunks_exact_rest s)) (λ s. chunks_exact_size s ≡ 24)
    (λ s t p k. length_items (entry_at (chunks_exact_rest s)) 24 0 (length (chunks_exact_rest s) / 24) ∙ omega arith)
    (λ s x t p k. (k.0 ∙ p, ap rows_of k.1.0 ∙ rows_next x.now (chunks_exact_rest t) (k.1.1 ∙ p)))
    s e

-- which entry a chunk is, in a loop over the chunks of t
pub chunk_turn : (s : _) (t : List ℕ) → chunks_exact_size s ≡ 24 → chunks_exact_rest s ≡ t → (xs : List (Bor (List ℕ))) (u : _) → Yields (chunks_exact_steps {A = ℕ}) s xs u → (r : _) (v : _) (x : Bor (List ℕ)) → r ≡ Some x → chunks_exact_steps u r v → (length xs < length t / 24) × (entry_at x.now 0 ≡ entry_at t (24 * length xs))
chunk_turn s t e f xs u y r v x z k =
    let h = rw f at (YieldsList-turn (chunked {s = s} e) xs u y r v x z k) in
    let m : length (rows_of t) ≡ length t / 24 = length_items (entry_at t) 24 0 (length t / 24) in
    let l : length xs < length t / 24 = omega (arith, h.0) in
    (l, h.1 ∙ get_or_items (entry_at t) 24 0 (length t / 24) (length xs) (entry_at x.now 0) l ∙ ap (entry_at t) (zero-add (24 * length xs)))
