-- Messages to other groups' leaders, in a row. Assumes nothing.
use Prim.Native.Nat.{ℕ, ◌+◌, ◌-◌, ◌*◌, ◌/◌, ◌%◌, ◌^◌, ◌≤◌, ◌<◌}
use mathlib.Core.Path.{◌≡◌, refl, sym, ap, ◌∙◌}
use mathlib.Core.Bool.{Bool, true, false, ◌&&◌, not}
use mathlib.Core.List.{List, [], ◌∷◌, ◌++◌, append-nil}
use native.Mathlib.Omega.{arith}
use native.Mathlib.Nat.{zero-add, mul-le-mul_left}
use lib.ListN.{length, length-append}
use lib.Dec.{eqb}
use Rattle.octets.specs.Bytes.{num, splice, flat}
use Rattle.octets.proofs.Laws.{splice_none, splice_next, length_splice}
use Rattle.octets.proofs.Codecs.{All}
use Rattle.rules.specs.Choice.{pick, every, keep, below}
use Rattle.rules.specs.Group.{holds, only, leader}
use Rattle.rules.specs.Wire.{entry_bytes, wire_bytes, header_in, numbers_of}
use Rattle.rules.specs.Kind.{row_of}
use Rattle.rules.specs.Read.{length_for}
use Rattle.rules.specs.State.{State}
use Rattle.rules.specs.Step.{sends, send_leader, other_groups}
use Rattle.rules.specs.declared.Entry.{Entry}
use Rattle.rules.specs.declared.Header.{Header}
use Rattle.rules.specs.declared.Shape.{Shape}
use Rattle.rules.specs.declared.Message.{Message}
use Rattle.rules.specs.declared.Message.TheVariants.{Note, VerifyRequest}
use Rattle.rules.proofs.Choice.{all_keep, all_map}
use Rattle.rules.proofs.Entries.{EntryFits}
use Rattle.rules.proofs.Tests.{below_at}
use Rattle.places.specs.Layout.{start_of}
use Rattle.places.proofs.Sections.{Laid}
use Rattle.handler.specs.Sending.{message_bytes, headed_in, leader_in, others_in, asked_of, Asks, leader_bytes}
use Rattle.handler.proofs.Rows.{all_below, flat_snoc, flat_ext, keep_ext, kept_more, kept_same, kept_within, sends_flat}
use Rattle.handler.proofs.Sends.{Sender, own_group, message_sent}
use Rattle.rules.specs.Image.{at_gvec}
use Rattle.places.proofs.Kept.{view_at_lem}

-- the mask of all groups holds each
full_table : every (λ s. every (λ j. holds (2 ^ s - 1) j) (below s)) (below 9) ≡ true
unfolding every below
full_table = refl

pub all_hold : (s j : ℕ) → s ≤ 8 → j < s → holds (2 ^ s - 1) j ≡ true
all_hold s j h l = below_at (λ j. holds (2 ^ s - 1) j) s (below_at (λ s. every (λ j. holds (2 ^ s - 1) j) (below s)) 9 full_table s (omega arith)) j l

pub all_others : (sh : Shape) (st : State) → sh.s ≤ 8 → other_groups sh st (λ j. true) ≡ other_groups sh st (holds (2 ^ sh.s - 1))
all_others sh st h =
    keep_ext (λ j. not (eqb j st.site.group) && true) (λ j. not (eqb j st.site.group) && holds (2 ^ sh.s - 1) j) (below sh.s)
    (all_map (λ j l. ap (λ (t : Bool). not (eqb j st.site.group) && t) (sym (all_hold sh.s j h l))) (below sh.s) (all_below sh.s))

module _ {sh : Shape} {st : State} {b : List ℕ} (l : Laid sh st b) (f : Sender sh st) where
  -- the other groups of a mask, by the bytes and by the state
  pub others_are : (mask : ℕ) → others_in sh b mask ≡ other_groups sh st (holds mask)
  others_are mask = ap (λ (g : ℕ). keep (λ j. not (eqb j g) && holds mask j) (below sh.s)) (own_group l f)

  module _ (kind number : ℕ) (entries : List ℕ) (xs : List ℕ) (es : List Entry) (h : (x : Header) → header_in (asked_of kind number x) ≡ x) (q : (x : Header) → numbers_of (asked_of kind number x) ≡ xs) (e : entries ≡ flat entry_bytes es) (fe : All EntryFits es) where
    leader_sent : (j : ℕ) → j < sh.s → leader_bytes sh b kind number entries j ≡ wire_bytes (send_leader sh st kind j xs es)
    unfolding leader_bytes
    leader_sent j u =
        message_sent l f (asked_of kind number (headed_in b kind j (only (leader_in sh b j)))) entries kind j (only (leader sh.n st.view.g_vec j)) xs es
        (h _ ∙ ap (λ (v : ℕ). headed_in b kind j (only (v % sh.n))) (view_at_lem l f.places f.g_vec j u))
        (q _) e fe

    leaders_are : (mask : ℕ) → flat (leader_bytes sh b kind number entries) (others_in sh b mask) ≡ flat wire_bytes (sends (λ j. send_leader sh st kind j xs es) (other_groups sh st (holds mask)))
    leaders_are mask =
        flat_ext (leader_bytes sh b kind number entries) (λ j. wire_bytes (send_leader sh st kind j xs es)) (others_in sh b mask)
        (all_map leader_sent (others_in sh b mask) (all_keep _ (λ j. j < sh.s) (below sh.s) (all_below sh.s)))
        ∙ sym (sends_flat (λ j. send_leader sh st kind j xs es) (others_in sh b mask))
        ∙ ap (λ (js : List ℕ). flat wire_bytes (sends (λ j. send_leader sh st kind j xs es) js)) (others_are mask)

  -- notes
  pub notes_sent : (number mask : ℕ) (entries : List ℕ) (e : Entry) → entries ≡ entry_bytes e → EntryFits e → flat (leader_bytes sh b 3 number entries) (others_in sh b mask) ≡ flat wire_bytes (sends (λ j. send_leader sh st 3 j [] (e ∷ [])) (other_groups sh st (holds mask)))
  unfolding pick flat
  notes_sent number mask entries e q fe = leaders_are 3 number entries [] (e ∷ []) (λ x. refl) (λ x. refl) (q ∙ simp append-nil) (fe, tt) mask

  -- verify requests
  pub verifies_sent : (number mask : ℕ) → flat (leader_bytes sh b 18 number []) (others_in sh b mask) ≡ flat wire_bytes (sends (λ j. send_leader sh st 18 j (number ∷ []) []) (other_groups sh st (holds mask)))
  unfolding pick flat
  verifies_sent number mask = leaders_are 18 number [] (number ∷ []) [] (λ x. refl) (λ x. refl) refl tt mask

-- an entry goes with a note, none with a verify request
pub asks_note : (entries : List ℕ) → length entries ≡ 24 → Asks 3 entries
unfolding pick row_of
asks_note entries e = record { whole = omega arith; few = omega arith; long = λ s. rw e (omega arith) }

pub asks_verify : (entries : List ℕ) → length entries ≡ 0 → Asks 18 entries
unfolding pick row_of
asks_verify entries e = record { whole = omega arith; few = omega arith; long = λ s. rw e (omega arith) }

-- ---- as they are written one after the other

asked_numbers : (t : Bool) (h : Header) (number : ℕ) → length (numbers_of (pick t (Note h) (VerifyRequest h number))) ≡ pick t 0 1
unfolding pick
asked_numbers true h number = refl
asked_numbers false h number = refl

-- the numbers of what is asked
pub asked_long : (m : Message) (kind number : ℕ) (h : Header) → m ≡ asked_of kind number h → length (numbers_of m) ≡ pick (eqb kind 3) 0 1
asked_long m kind number h e = ap (λ (x : Message). length (numbers_of x)) e ∙ asked_numbers (eqb kind 3) h number

-- the bytes of what is asked
pub asked_is : (sh : Shape) (b : List ℕ) (kind number : ℕ) (entries : List ℕ) (j view t : ℕ) (h : Header) (m : Message) → view ≡ num b (start_of sh at_gvec + 4 * j) 4 → t ≡ only (view % sh.n) → h ≡ headed_in b kind j t → m ≡ asked_of kind number h → message_bytes sh b m entries ≡ leader_bytes sh b kind number entries j
unfolding leader_bytes
asked_is sh b kind number entries j view t h m e q g d = rw (d, g, q, e)

-- another group, and in a mask
abbrev pub other_in : List ℕ → ℕ → ℕ → Bool
other_in b mask j = not (eqb j (num b 0 1)) && holds mask j

module _ (sh : Shape) (b : List ℕ) (kind number mask : ℕ) (entries : List ℕ) where
  -- those below j
  abbrev pub up_to : ℕ → List ℕ
  up_to j = keep (other_in b mask) (below j)

  -- the leaders below j have been told
  pub record Written (out₀ out : List ℕ) (at j : ℕ) : Type 0 where
    pub within : j ≤ sh.s
    pub even : at ≡ length_for sh.s kind (length entries / 24) * length (up_to j)
    pub end : at ≡ length (flat (leader_bytes sh b kind number entries) (up_to j))
    pub size : length out ≡ length out₀
    pub bytes : out ≡ splice out₀ 0 (flat (leader_bytes sh b kind number entries) (up_to j))

  pub written_none : (out : List ℕ) → Written out out 0 0
  unfolding below keep flat
  written_none out = record { within = omega arith; even = omega arith; end = refl; size = refl; bytes = sym (splice_none out 0) }

  module _ (out₀ out : List ℕ) (at j : ℕ) (w : Written out₀ out at j) (l : j < sh.s) (r : length_for sh.s kind (length entries / 24) * length (others_in sh b mask) ≤ length out₀) where
    -- there is room for the next
    pub written_room : other_in b mask j ≡ true → at + length_for sh.s kind (length entries / 24) ≤ length out
    written_room h =
        let k = length_for sh.s kind (length entries / 24) in
        let g : length (up_to j) + 1 ≤ length (up_to sh.s) = omega (arith, kept_within (other_in b mask) (j + 1) sh.s (omega arith), ap length (kept_more (other_in b mask) j h), length-append (up_to j) (j ∷ [])) in
        omega (arith, mul-le-mul_left k g, w.even, w.size)

    pub written_next : (out' : List ℕ) (end : ℕ) → other_in b mask j ≡ true → end ≡ at + length (leader_bytes sh b kind number entries j) → out' ≡ splice out at (leader_bytes sh b kind number entries j) → length (leader_bytes sh b kind number entries j) ≡ length_for sh.s kind (length entries / 24) → Written out₀ out' end (j + 1)
    written_next out' end h e q n =
        let f = leader_bytes sh b kind number entries in
        let x = flat f (up_to j) in
        let m : up_to (j + 1) ≡ up_to j ++ (j ∷ []) = kept_more (other_in b mask) j h in
        let y : flat f (up_to (j + 1)) ≡ x ++ f j = ap (flat f) m ∙ flat_snoc f (up_to j) j in
        let room : at + length (f j) ≤ length out₀ = omega (arith, written_room h, w.size) in
        let long : length (up_to (j + 1)) ≡ length (up_to j) + 1 = ap length m ∙ length-append (up_to j) (j ∷ []) in
        let bytes : out' ≡ splice out₀ 0 (x ++ f j) = splice_next out₀ 0 at x (f j) out out' (omega arith) (sym w.end) w.bytes (q ∙ ap (λ (a : ℕ). splice out a (f j)) (sym (zero-add at))) in
        record {
          within = omega arith;
          even = rw long (omega (arith, w.even));
          end = rw y (e ∙ ap (λ (a : ℕ). a + length (f j)) w.end ∙ sym (length-append x (f j)));
          size = ap length q ∙ length_splice out at (f j) (omega (arith, w.size)) ∙ w.size;
          bytes = rw y bytes;
        }

    pub written_skip : other_in b mask j ≡ false → Written out₀ out at (j + 1)
    written_skip h =
        let m : up_to (j + 1) ≡ up_to j = kept_same (other_in b mask) j h in
        record { within = omega arith; even = rw m w.even; end = rw m w.end; size = w.size; bytes = rw m w.bytes }

  pub written_all : (out₀ out : List ℕ) (at j : ℕ) → Written out₀ out at j → sh.s ≤ j → (at ≡ length (flat (leader_bytes sh b kind number entries) (others_in sh b mask))) × (out ≡ splice out₀ 0 (flat (leader_bytes sh b kind number entries) (others_in sh b mask)))
  written_all out₀ out at j w l = let e : j ≡ sh.s = omega (arith, w.within) in (rw e at w.end, rw e at w.bytes)

-- ---- how many there are

module _ (b : List ℕ) (mask : ℕ) where
  pub counted_more : (j count : ℕ) → other_in b mask j ≡ true → count ≡ length (keep (other_in b mask) (below j)) → count + 1 ≡ length (keep (other_in b mask) (below (j + 1)))
  counted_more j count h e = rw (kept_more (other_in b mask) j h, length-append (keep (other_in b mask) (below j)) (j ∷ [])) (omega arith)

  pub counted_same : (j count : ℕ) → other_in b mask j ≡ false → count ≡ length (keep (other_in b mask) (below j)) → count ≡ length (keep (other_in b mask) (below (j + 1)))
  counted_same j count h e = rw (kept_same (other_in b mask) j h) e

  pub counted_none : 0 ≡ length (keep (other_in b mask) (below 0))
  unfolding keep below
  counted_none = refl
