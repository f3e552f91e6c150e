-- A table made of other bytes: cleared, taken over from a message, or tested. Assumes nothing.
use Prim.Native.Nat.{ℕ, ◌+◌, ◌-◌, ◌*◌, ◌≤◌, ◌<◌, min}
use mathlib.Core.Path.{◌≡◌, refl, sym, ap, ◌∙◌}
use mathlib.Core.Bool.{Bool, true, false, true≢false}
use mathlib.Core.List.{List, [], ◌++◌, append_assoc}
use native.Mathlib.Omega.{arith}
use native.Mathlib.Nat.{zero-add}
use lib.ListN.{length, get_or, take, drop, replicate, length-append, length-drop, length-replicate, replicate-append-replicate}
use lib.Seq.{take_at, drop_at, take_all}
use Rattle.octets.specs.Bytes.{le, num, part, splice, zeros, flat, items}
use Rattle.octets.proofs.Laws.{Bytes, bytes_known, length_le, le_zero, length_part, num_lt, splice_next, zeros_are, zeros_replicate}
use Rattle.octets.proofs.Sections.{splice_whole}
use Rattle.octets.proofs.Codecs.{All, long_all, length_items, peel_all, peel_number}
use Rattle.rules.specs.Choice.{same}
use Rattle.rules.specs.Wire.{entry_bytes}
use Rattle.rules.specs.Read.{entry_at}
use Rattle.rules.specs.Image.{zero_bytes, table_bytes, table_at}
use Rattle.rules.proofs.Tests.{all_items, same_self, same_true}
use Rattle.rules.proofs.Entries.{EntryFits, entry, exact_entry}
use Rattle.entries.specs.Table.{Holds, Table}
use Rattle.entries.proofs.Table.{hold, count_table}

-- ---- no entry

pub clear_law : (c : ℕ) (t t1 : List ℕ) → length t ≡ 4 + 24 * c → t1 ≡ splice t 0 (replicate (4 + 24 * c) 0) → t1 ≡ table_bytes c []
unfolding table_bytes flat
clear_law c t t1 l q =
    let z : c - 0 ≡ c = omega arith in
    q ∙ splice_whole t (zero_bytes (4 + 24 * c)) (length-replicate {A = ℕ} (4 + 24 * c) 0 ∙ sym l)
    ∙ sym (rw (z, le_zero 4) (replicate-append-replicate {A = ℕ} 4 (24 * c) 0))

-- ---- the entries that stand in bytes

one_fits : (b : List ℕ) (a : ℕ) → Bytes b → a + 24 ≤ length b → EntryFits (entry_at b a)
unfolding entry_at
one_fits b a bs h =
    record {
      stamp = num_lt b a 8 bs (omega arith);
      command = num_lt b (a + 8) 8 bs (omega arith);
      request = num_lt b (a + 16) 4 bs (omega arith);
      coordinator = num_lt b (a + 20) 2 bs (omega arith);
      mask = num_lt b (a + 22) 2 bs (omega arith);
    }

module _ (b : List ℕ) (at n : ℕ) (bs : Bytes b) (l : at + 24 * n ≤ length b) where
  -- what is read fits
  pub read_fits : All EntryFits (items (entry_at b) 24 at n)
  read_fits = all_items EntryFits (entry_at b) 24 at n (λ i h. one_fits b (at + 24 * i) bs (omega arith))

  -- and its bytes are those that were read
  pub read_bytes : flat entry_bytes (items (entry_at b) 24 at n) ≡ part b at (24 * n)
  unfolding part
  read_bytes =
      let x : List ℕ = flat entry_bytes (items (entry_at b) 24 at n) in
      let k : length x ≡ 24 * n = long_all entry (items (entry_at b) 24 at n) read_fits ∙ ap (λ (j : ℕ). 24 * j) (length_items (entry_at b) 24 at n) in
      sym (ap (take (24 * n)) (sym (peel_all exact_entry b at n bs l)) ∙ take_at x (drop (at + 24 * n) b) (24 * n) k)

pub take_law : (c n : ℕ) (t s : List ℕ) (at m : ℕ) (t1 t2 t3 : List ℕ) → ((i : ℕ) → get_or s i 0 < 256) → length t ≡ 4 + 24 * c → n ≤ c → c ≤ 4096 → at + 24 * n ≤ length s → m ≡ 24 * n
    → t1 ≡ splice t 0 (le 4 n) → t2 ≡ splice t1 4 (take m (drop at s)) → t3 ≡ splice t2 (4 + 24 * n) (replicate (24 * (c - n)) 0) → Holds c (items (entry_at s) 24 at n) t3
unfolding table_bytes part
take_law c n t s at m t1 t2 t3 known lt hn hc ls hm q1 q2 q3 =
    let bs = bytes_known s known in
    let es = items (entry_at s) 24 at n in
    let x : List ℕ = flat entry_bytes es in
    let zs : List ℕ = zero_bytes (24 * (c - n)) in
    let le' : length es ≡ n = length_items (entry_at s) 24 at n in
    let lz : length zs ≡ 24 * (c - n) = length-replicate {A = ℕ} (24 * (c - n)) 0 in
    let e : take m (drop at s) ≡ x = ap (λ (k : ℕ). take k (drop at s)) hm ∙ sym (read_bytes s at n bs ls) in
    let lx : length x ≡ 24 * n = ap length (read_bytes s at n bs ls) ∙ length_part s at (24 * n) ls in
    let lf : length (le 4 n ++ x) ≡ 4 + 24 * n = length-append (le 4 n) x ∙ omega (arith, length_le 4 n) in
    let lw : length ((le 4 n ++ x) ++ zs) ≡ length t = length-append (le 4 n ++ x) zs ∙ omega arith in
    let w2 : t2 ≡ splice t 0 (le 4 n ++ x) = splice_next t 0 4 (le 4 n) x t1 t2 (omega arith) (length_le 4 n) q1 (q2 ∙ ap (splice t1 4) e) in
    let w3 : t3 ≡ splice t 0 ((le 4 n ++ x) ++ zs)
    = splice_next t 0 (4 + 24 * n) (le 4 n ++ x) zs t2 t3 (omega arith) lf w2 (q3 ∙ ap (λ (k : ℕ). splice t2 k zs) (sym (zero-add (4 + 24 * n)))) in
    hold c es t3
    (w3 ∙ splice_whole t ((le 4 n ++ x) ++ zs) lw ∙ rw le' (append_assoc (le 4 n) x zs))
    (omega arith)
    hc
    (read_fits s at n bs ls)

table_read_fits : (c : ℕ) (t : List ℕ) → ((i : ℕ) → get_or t i 0 < 256) → length t ≡ 4 + 24 * c → All EntryFits (table_at c t 0)
unfolding table_at
table_read_fits c t known lt = read_fits t 4 (min (num t 0 4) c) (bytes_known t known) (omega arith)

-- ---- bytes that are the form of the table in them

not_same : (x y : List ℕ) → (x ≡ y → ⊥) → false ≡ same x y
not_same x y n = go (same x y) refl
  where
    go : (r : Bool) → same x y ≡ r → false ≡ r
    go true e = absurd (n (same_true x y e))
    go false e = refl

-- two lists that differ at most after f, where one has zeros
decide : (f r : List ℕ) (m : ℕ) (x y : List ℕ) → x ≡ f ++ zero_bytes m → y ≡ f ++ r → length r ≡ m → (z : Bool) → z ≡ zeros r → z ≡ same x y
decide f r m x y hx hy lr true q =
    let e : x ≡ y = hx ∙ ap (λ (k : ℕ). f ++ zero_bytes k) (sym lr) ∙ ap (λ (v : List ℕ). f ++ v) (sym (zeros_are r (sym q))) ∙ sym hy in
    sym (rw e (same_self y))
decide f r m x y hx hy lr false q =
    not_same x y
    (λ e.
    let w : zero_bytes m ≡ r = sym (drop_at f (zero_bytes m) (length f) refl) ∙ ap (drop (length f)) (sym hx ∙ e ∙ hy) ∙ drop_at f r (length f) refl in
    true≢false (sym (zeros_replicate m) ∙ ap zeros w ∙ sym q))

module _ (c : ℕ) (t : List ℕ) (known : (i : ℕ) → get_or t i 0 < 256) (lt : length t ≡ 4 + 24 * c) (hc : c ≤ 4096) where
  read_length : length (table_at c t 0) ≡ min (num t 0 4) c
  unfolding table_at
  read_length = length_items (entry_at t) 24 4 (min (num t 0 4) c)

  pub good_over : (n : ℕ) → n ≡ num t 0 4 → c < n → false ≡ same (table_bytes c (table_at c t 0)) t
  good_over n e l =
      let k = read_length in
      not_same (table_bytes c (table_at c t 0)) t (λ q. omega (arith, ap (λ (x : List ℕ). num x 0 4) q, count_table c (table_at c t 0) (omega arith)))

  -- the count, the entries, and what stands in the free places
  in_three : (n : ℕ) → n ≡ num t 0 4 → n ≤ c → t ≡ (le 4 n ++ flat entry_bytes (table_at c t 0)) ++ part t (4 + 24 * n) (24 * (c - n))
  unfolding table_at part
  in_three n e l =
      let bs = bytes_known t known in
      let m : min (num t 0 4) c ≡ n = omega arith in
      let p : le 4 n ++ drop 4 t ≡ t = rw e (peel_number 4 t 0 bs (omega arith)) in
      let r : take (24 * (c - n)) (drop (4 + 24 * n) t) ≡ drop (4 + 24 * n) t = take_all (24 * (c - n)) (drop (4 + 24 * n) t) (simp length-drop (omega arith)) in
      sym (rw (m, r) (append_assoc (le 4 n) (flat entry_bytes (items (entry_at t) 24 4 n)) (drop (4 + 24 * n) t) ∙ ap (λ (x : List ℕ). le 4 n ++ x) (peel_all exact_entry t 4 n bs (omega arith)) ∙ p))

  pub good_rest : (n : ℕ) (z : Bool) → n ≡ num t 0 4 → n ≤ c → z ≡ zeros (part t (4 + 24 * n) (24 * (c - n))) → z ≡ same (table_bytes c (table_at c t 0)) t
  unfolding table_bytes
  good_rest n z e l q =
      let f : List ℕ = le 4 n ++ flat entry_bytes (table_at c t 0) in
      let r : List ℕ = part t (4 + 24 * n) (24 * (c - n)) in
      let k : length (table_at c t 0) ≡ n = read_length ∙ omega arith in
      let lr : length r ≡ 24 * (c - n) = length_part t (4 + 24 * n) (24 * (c - n)) (omega arith) in
      let b : table_bytes c (table_at c t 0) ≡ f ++ zero_bytes (24 * (c - n)) = rw k (sym (append_assoc (le 4 n) (flat entry_bytes (table_at c t 0)) (zero_bytes (24 * (c - n))))) in
      decide f r (24 * (c - n)) (table_bytes c (table_at c t 0)) t b (in_three n e l) lr z q

  -- good bytes are a table
  pub good_table : same (table_bytes c (table_at c t 0)) t ≡ true → Table c t
  good_table e =
      let k = read_length in
      let b : t ≡ table_bytes c (table_at c t 0) = sym (same_true (table_bytes c (table_at c t 0)) t e) in
      hold c (table_at c t 0) t b (omega arith) hc (table_read_fits c t known lt)
