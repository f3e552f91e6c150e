-- Writes one after the other are one write of the message's bytes, and how long those are. Assumes nothing.
use Prim.Native.Nat.{ℕ, ◌+◌, ◌-◌, ◌*◌, ◌/◌, ◌≤◌, ◌<◌}
use mathlib.Core.Path.{◌≡◌, refl, sym, ap, ◌∙◌}
use mathlib.Core.List.{List, [], ◌∷◌, ◌++◌, append_assoc, append-nil}
use native.Mathlib.Omega.{arith}
use native.Mathlib.Numerals.{add-one}
use lib.ListN.{length, take, get_or, replicate, length-append, length-replicate}
use lib.Seq.{length-take-le, take-suc, take_at, take_all}
use lib.Dec.{lit<}
use Rattle.octets.specs.Bytes.{le, flat, items, num, splice}
use Rattle.octets.specs.Sections.{concat}
use Rattle.octets.proofs.Laws.{Bytes, length_le, splice_next, splice_none}
use Rattle.octets.proofs.Codecs.{length_items, exact_number, flat_append}
use Rattle.rules.specs.Wire.{entry_bytes, head_bytes, wire_bytes, numbers_of}
use Rattle.rules.specs.Wire as Wires
use Rattle.rules.specs.Read.{entry_at}
use Rattle.rules.specs.Write.{wire_from}
use Rattle.rules.specs.declared.Header.{Header}
use Rattle.rules.specs.declared.Message.{Message}
use Rattle.rules.proofs.Entries.{exact_entry}
use Rattle.rules.proofs.Case.{few_numbers, block_of}
use Rattle.writer.specs.declared.Said.{Said}
use Rattle.rules.proofs.EachKind.{most_numbers}
use Rattle.writer.specs.Said.{said_first, said_next, said_of, numbers_said, bare_wire, size_of, Room}

-- y is written where x ends
next : (b : List ℕ) (at j i : ℕ) (x y m e : List ℕ) → at + j ≤ length b → length x ≡ j → i ≡ at + j → m ≡ splice b at x → e ≡ splice m i y → e ≡ splice b at (x ++ y)
next b at j i x y m e h l q hm he = splice_next b at j x y m e h l hm (rw q at he)

-- ---- the header

pub header_put : (b : List ℕ) (at : ℕ) (h : Header) (m₁ m₂ m₃ m₄ m₅ m₆ m₇ : List ℕ)
    → at + 12 ≤ length b
    → m₁ ≡ splice b at (le 1 h.kind)
    → m₂ ≡ splice m₁ (at + 1) (le 1 h.to_group)
    → m₃ ≡ splice m₂ (at + 2) (le 1 h.to_mask)
    → m₄ ≡ splice m₃ (at + 3) (le 1 h.from_group)
    → m₅ ≡ splice m₄ (at + 4) (le 1 h.from_replica)
    → m₆ ≡ splice m₅ (at + 5) (replicate 3 0)
    → m₇ ≡ splice m₆ (at + 8) (le 4 h.view)
    → m₇ ≡ splice b at (head_bytes (bare_wire h))
unfolding head_bytes concat
header_put b at h m₁ m₂ m₃ m₄ m₅ m₆ m₇ r e₁ e₂ e₃ e₄ e₅ e₆ e₇ =
    let k = le 1 h.kind in
    let g = le 1 h.to_group in
    let m = le 1 h.to_mask in
    let f = le 1 h.from_group in
    let p = le 1 h.from_replica in
    let z : List ℕ = replicate 3 0 in
    let s₂ : m₂ ≡ splice b at (k ++ g) = splice_next b at 1 k g m₁ m₂ (omega arith) (length_le 1 h.kind) e₁ e₂ in
    let s₃ : m₃ ≡ splice b at ((k ++ g) ++ m) = splice_next b at 2 (k ++ g) m m₂ m₃ (omega arith) (simp (length-append, length_le)) s₂ e₃ in
    let s₄ : m₄ ≡ splice b at (((k ++ g) ++ m) ++ f) = splice_next b at 3 ((k ++ g) ++ m) f m₃ m₄ (omega arith) (simp (length-append, length_le)) s₃ e₄ in
    let s₅ : m₅ ≡ splice b at ((((k ++ g) ++ m) ++ f) ++ p) = splice_next b at 4 (((k ++ g) ++ m) ++ f) p m₄ m₅ (omega arith) (simp (length-append, length_le)) s₄ e₅ in
    let s₆ : m₆ ≡ splice b at (((((k ++ g) ++ m) ++ f) ++ p) ++ z) = splice_next b at 5 ((((k ++ g) ++ m) ++ f) ++ p) z m₅ m₆ (omega arith) (simp (length-append, length_le)) s₅ e₆ in
    let s₇ : m₇ ≡ splice b at ((((((k ++ g) ++ m) ++ f) ++ p) ++ z) ++ le 4 h.view) = splice_next b at 8 (((((k ++ g) ++ m) ++ f) ++ p) ++ z) (le 4 h.view) m₆ m₇ (omega arith) (simp (length-append, length_le, length-replicate)) s₆ e₇ in
    s₇ ∙ ap (splice b at) (simp (append_assoc, append-nil))

long_header : (h : Header) → length (head_bytes (bare_wire h)) ≡ 12
unfolding head_bytes concat
long_header h = simp (length-append, length_le)

long_eights : (xs : List ℕ) → length (flat (le 8) xs) ≡ 8 * length xs
unfolding flat
long_eights [] = refl
long_eights (x ∷ xs) = length-append (le 8 x) (flat (le 8) xs) ∙ omega (arith, length_le 8 x, long_eights xs)

-- ---- what a case says

-- what is known of the case of a message
pub count_said : (m : Message) (p : Said) → p ≡ said_of m → p.count ≡ length (numbers_of m)
count_said m p s = ap (λ (q : Said). q.count) s

pub few_said : (m : Message) (p : Said) → p ≡ said_of m → p.count ≤ most_numbers
few_said m p s = rw s (few_numbers m)

-- by how many numbers it has: what it says, and that there is room for one more
module _ (m c : Message) (e : m ≡ c) (k : ℕ) (h : Header) (p : Said) (f : p ≡ said_first k h) where
  pub said_none : said_first k h ≡ said_of c → p ≡ said_of m
  said_none s = f ∙ s ∙ sym (ap said_of e)

  module _ (x : ℕ) (p₁ : Said) (f₁ : p₁ ≡ said_next p x) where
    pub said_one : said_next (said_first k h) x ≡ said_of c → p₁ ≡ said_of m
    said_one s = f₁ ∙ rw f s ∙ sym (ap said_of e)

    module _ (y : ℕ) (p₂ : Said) (f₂ : p₂ ≡ said_next p₁ y) where
      pub said_two : said_next (said_next (said_first k h) x) y ≡ said_of c → p₂ ≡ said_of m
      said_two s = f₂ ∙ rw (f₁, f) s ∙ sym (ap said_of e)

      pub said_three : (z : ℕ) (p₃ : Said) → p₃ ≡ said_next p₂ z → said_next (said_next (said_next (said_first k h) x) y) z ≡ said_of c → p₃ ≡ said_of m
      said_three z p₃ f₃ s = f₃ ∙ rw (f₂, f₁, f) s ∙ sym (ap said_of e)

module _ (k : ℕ) (h : Header) (p : Said) (f : p ≡ said_first k h) where
  pub room_first : p.count < most_numbers
  room_first = rw f (lit< tt)

  module _ (x : ℕ) (p₁ : Said) (f₁ : p₁ ≡ said_next p x) where
    pub room_second : p₁.count < most_numbers
    unfolding said_next
    room_second = rw (f₁, f) (lit< tt)

    pub room_third : (y : ℕ) (p₂ : Said) → p₂ ≡ said_next p₁ y → p₂.count < most_numbers
    unfolding said_next
    room_third y p₂ f₂ = rw (f₂, f₁, f) (lit< tt)

-- ---- the numbers

-- one number more
pub number_put : (b : List ℕ) (at i x : ℕ) (xs m e : List ℕ) → at + 8 * length xs ≤ length b → i < length xs → x ≡ get_or xs i 0 → m ≡ splice b at (flat (le 8) (take i xs)) → e ≡ splice m (at + 8 * i) (le 8 x) → e ≡ splice b at (flat (le 8) (take (i + 1) xs))
unfolding flat
number_put b at i x xs m e h l q hm he =
    let long : length (take i xs) ≡ i = length-take-le i xs (omega arith) in
    let eights : length (flat (le 8) (take i xs)) ≡ 8 * i = omega (arith, long_eights (take i xs)) in
    let s : e ≡ splice b at (flat (le 8) (take i xs) ++ le 8 x) = splice_next b at (8 * i) (flat (le 8) (take i xs)) (le 8 x) m e (omega arith) eights hm he in
    let one : flat (le 8) (x ∷ []) ≡ le 8 x = append-nil (le 8 x) in
    let more : take i xs ++ (x ∷ []) ≡ take (i + 1) xs = rw (q, add-one) (sym (take-suc xs i 0 l)) in
    let same : flat (le 8) (take i xs) ++ le 8 x ≡ flat (le 8) (take (i + 1) xs) =
    ap (λ (ys : List ℕ). flat (le 8) (take i xs) ++ ys) (sym one) ∙ sym (flat_append (le 8) (take i xs) (x ∷ [])) ∙ ap (flat (le 8)) more in
    s ∙ ap (splice b at) same

pub no_number_put : (b : List ℕ) (at : ℕ) (xs : List ℕ) → b ≡ splice b at (flat (le 8) (take 0 xs))
unfolding flat
no_number_put b at xs = sym (splice_none b at)

pub all_numbers_put : (b : List ℕ) (at i : ℕ) (xs e : List ℕ) → i ≤ length xs → length xs ≤ i → e ≡ splice b at (flat (le 8) (take i xs)) → e ≡ splice b at (flat (le 8) xs)
all_numbers_put b at i xs e h l q = q ∙ ap (λ (ys : List ℕ). splice b at (flat (le 8) ys)) (take_all i xs l)

-- they lie in the room for them
pub room_said : (m : Message) (p : Said) → p ≡ said_of m → p.count ≤ length p.numbers
room_said m p e = rw (e, length-append (numbers_of m) (replicate (most_numbers - length (numbers_of m)) 0)) (omega arith)

pub numbers_said_lem : (m : Message) → numbers_said (said_of m) ≡ numbers_of m
numbers_said_lem m = take_at (numbers_of m) _ (length (numbers_of m)) refl

-- ---- a message

module _ (m : Message) (views entries : List ℕ) where
  abbrev bytes : List ℕ
  bytes = wire_bytes (wire_from m views entries)

  module _ (wv : 4 * (length views / 4) ≡ length views) (we : 24 * (length entries / 24) ≡ length entries) (bv : Bytes views) (be : Bytes entries) where
    bytes_are : bytes ≡ head_bytes (bare_wire (Wires.header_in m)) ++ (le 4 (length views / 4) ++ (views ++ ((le 4 (length (numbers_of m)) ++ flat (le 8) (numbers_of m)) ++ (le 4 (length entries / 24) ++ entries))))
    unfolding wire_bytes wire_from head_bytes concat
    bytes_are =
        let ev : flat (le 4) (items (λ a. num views a 4) 4 0 (length views / 4)) ≡ views = block_of (exact_number 4) views bv wv in
        let ee : flat entry_bytes (items (entry_at entries) 24 0 (length entries / 24)) ≡ entries = block_of exact_entry entries be we in
        simp (ev, ee, length_items, append_assoc, append-nil)

    pub length_bytes : length bytes ≡ size_of m views entries
    length_bytes = ap length bytes_are ∙ simp (length-append, length_le, long_header, long_eights) (omega arith)

  module _ (at size : ℕ) (r : Room m views entries at size) (p : Said) (e : p ≡ said_of m) (bv : Bytes views) (be : Bytes entries) where
    pub message_end : at + 16 + length views + 4 + 8 * p.count + 4 + length entries ≡ at + length bytes
    message_end = rw (e, length_bytes r.whole_views r.whole_entries bv be) (omega arith)

  module _ (at : ℕ) (b : List ℕ) (r : Room m views entries at (length b)) (p : Said) (e : p ≡ said_of m) (bv : Bytes views) (be : Bytes entries) (m₁ m₂ m₃ m₄ m₅ m₆ m₇ : List ℕ) where
    pub message_put : m₁ ≡ splice b at (head_bytes (bare_wire p.header))
        → m₂ ≡ splice m₁ (at + 12) (le 4 (length views / 4))
        → m₃ ≡ splice m₂ (at + 16) views
        → m₄ ≡ splice m₃ (at + 16 + length views) (le 4 p.count)
        → m₅ ≡ splice m₄ (at + 16 + length views + 4) (flat (le 8) (take (p.count - 0) p.numbers))
        → m₆ ≡ splice m₅ (at + 16 + length views + 4 + 8 * p.count) (le 4 (length entries / 24))
        → m₇ ≡ splice m₆ (at + 16 + length views + 4 + 8 * p.count + 4) entries
        → m₇ ≡ splice b at bytes
    message_put e₁ e₂ e₃ e₄ e₅ e₆ e₇ =
        let H = head_bytes (bare_wire (Wires.header_in m)) in
        let lh : length H ≡ 12 = long_header (Wires.header_in m) in
        let c = le 4 (length views / 4) in
        let n = length (numbers_of m) in
        let d = le 4 n in
        let N = flat (le 8) (numbers_of m) in
        let k = le 4 (length entries / 24) in
        let room : at + size_of m views entries ≤ length b = r.room in
        let f₁ : m₁ ≡ splice b at H = rw e at e₁ in
        let f₄ : m₄ ≡ splice m₃ (at + 16 + length views) d = rw e at e₄ in
        let whole : p.count - 0 ≡ p.count = omega arith in
        let f₅ : m₅ ≡ splice m₄ (at + 16 + length views + 4) N = rw (whole, e, numbers_said_lem m) at e₅ in
        let f₆ : m₆ ≡ splice m₅ (at + 16 + length views + 4 + 8 * n) k = rw e at e₆ in
        let f₇ : m₇ ≡ splice m₆ (at + 16 + length views + 4 + 8 * n + 4) entries = rw e at e₇ in
        let s₂ : m₂ ≡ splice b at (H ++ c) = next b at 12 (at + 12) H c m₁ m₂ (omega arith) lh refl f₁ e₂ in
        let s₃ : m₃ ≡ splice b at ((H ++ c) ++ views) = next b at 16 (at + 16) (H ++ c) views m₂ m₃ (omega arith) (simp (length-append, length_le, lh)) refl s₂ e₃ in
        let s₄ : m₄ ≡ splice b at (((H ++ c) ++ views) ++ d) = next b at (16 + length views) (at + 16 + length views) ((H ++ c) ++ views) d m₃ m₄ (omega arith) (simp (length-append, length_le, lh)) (omega arith) s₃ f₄ in
        let s₅ : m₅ ≡ splice b at ((((H ++ c) ++ views) ++ d) ++ N) = next b at (16 + length views + 4) (at + 16 + length views + 4) (((H ++ c) ++ views) ++ d) N m₄ m₅ (omega arith) (simp (length-append, length_le, lh) (omega arith)) (omega arith) s₄ f₅ in
        let s₆ : m₆ ≡ splice b at (((((H ++ c) ++ views) ++ d) ++ N) ++ k) = next b at (16 + length views + 4 + 8 * n) (at + 16 + length views + 4 + 8 * n) ((((H ++ c) ++ views) ++ d) ++ N) k m₅ m₆ (omega arith) (simp (length-append, length_le, lh, long_eights) (omega arith)) (omega arith) s₅ f₆ in
        let s₇ : m₇ ≡ splice b at ((((((H ++ c) ++ views) ++ d) ++ N) ++ k) ++ entries) = next b at (16 + length views + 4 + 8 * n + 4) (at + 16 + length views + 4 + 8 * n + 4) (((((H ++ c) ++ views) ++ d) ++ N) ++ k) entries m₆ m₇ (omega arith) (simp (length-append, length_le, lh, long_eights) (omega arith)) (omega arith) s₆ f₇ in
        s₇ ∙ ap (splice b at) (sym (bytes_are r.whole_views r.whole_entries bv be ∙ simp append_assoc))
