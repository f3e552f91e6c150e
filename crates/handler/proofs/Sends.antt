-- A message that a site sends is that of a case beside the bytes of its gVec, which stand in the state. Assumes nothing.
use Prim.Native.Nat.{ℕ, ◌+◌, ◌*◌, ◌/◌, ◌^◌, ◌≤◌, ◌<◌}
use mathlib.Core.Path.{◌≡◌, refl, ap, ◌∙◌}
use mathlib.Core.Bool.{false}
use mathlib.Core.List.{List}
use native.Mathlib.Omega.{arith}
use lib.ListN.{length, take, drop, length-append}
use lib.Dec.{lit<, lit≤}
use Rattle.octets.specs.Bytes.{le, num, part, flat}
use Rattle.octets.specs.Sections.{concat}
use Rattle.octets.proofs.Laws.{Bytes, length_le, length_part, bytes_part}
use Rattle.octets.proofs.Codecs.{All, number}
use Rattle.rules.specs.Wire.{entry_bytes, head_bytes, wire_bytes, header_in, numbers_of}
use Rattle.rules.specs.Kind.{bare, views_in, numbers_in}
use Rattle.rules.specs.Read.{length_for}
use Rattle.rules.specs.Write.{wire_from}
use Rattle.rules.specs.State.{State}
use Rattle.rules.specs.Step.{send}
use Rattle.rules.specs.declared.Entry.{Entry}
use Rattle.rules.specs.declared.Header.{Header}
use Rattle.rules.specs.declared.Shape.{Shape}
use Rattle.rules.specs.declared.Message.{Message}
use Rattle.rules.proofs.Choice.{pick_false}
use Rattle.rules.proofs.Entries.{EntryFits, entry, long_entry}
use Rattle.rules.proofs.Tables.{flat_long}
use Rattle.rules.proofs.Image.{StateFits}
use Rattle.places.specs.Layout.{start_of}
use Rattle.places.proofs.Sections.{Laid, lent}
use Rattle.places.proofs.Head.{get_head}
use Rattle.writer.proofs.Writer.{length_bytes}
use Rattle.handler.specs.Sending.{message_bytes, headed_in}
use Rattle.rules.specs.Image.{at_gvec}
use Rattle.rules.proofs.Case.{in_block}

-- the header of what a site sends
abbrev pub headed : State → ℕ → ℕ → ℕ → Header
headed st k to_group to_mask = record { kind = k; to_group = to_group; to_mask = to_mask; from_group = st.site.group; from_replica = st.site.replica; view = st.view.g_view }

pub sent_case : (st : State) (m : Message) (views entries : List ℕ) (k g t : ℕ) (xs : List ℕ) (es : List Entry) → All (λ v. v < 256 ^ 4) st.view.g_vec → All EntryFits es → header_in m ≡ headed st k g t → numbers_of m ≡ xs → views ≡ flat (le 4) st.view.g_vec → entries ≡ flat entry_bytes es → wire_from m views entries ≡ send st k g t xs es
unfolding wire_from
sent_case st m views entries k g t xs es fv fe h q v e = rw (v, e) (simp (h, q, in_block (number 4) (lit< tt) st.view.g_vec fv, in_block entry (lit< tt) es fe))

-- the gVec section as it is lent to the writer
pub views_lent : {sh : Shape} {st : State} {b : List ℕ} (at n : ℕ) → Laid sh st b → at ≡ start_of sh at_gvec → n ≡ 4 * sh.s → take n (drop at b) ≡ flat (le 4) st.view.g_vec
views_lent at n l e r = lent l 1 at n (lit< tt) e r

-- the bytes that are written, from those of the gVec as they are lent
pub message_is : (sh : Shape) (b : List ℕ) (m : Message) (entries : List ℕ) (at n : ℕ) → at ≡ start_of sh at_gvec → n ≡ 4 * sh.s → wire_bytes (wire_from m (take n (drop at b)) entries) ≡ message_bytes sh b m entries
unfolding message_bytes part
message_is sh b m entries at n e r = rw (e, r)

-- and how long they are
pub message_length : (sh : Shape) (b : List ℕ) (m : Message) (entries : List ℕ) → start_of sh at_gvec + 4 * sh.s ≤ length b → Bytes b → Bytes entries → 24 * (length entries / 24) ≡ length entries → length (message_bytes sh b m entries) ≡ 24 + 4 * sh.s + 8 * length (numbers_of m) + length entries
unfolding message_bytes
message_length sh b m entries r bb be w =
    let v = part b (start_of sh at_gvec) (4 * sh.s) in
    let n : length v ≡ 4 * sh.s = length_part b (start_of sh at_gvec) (4 * sh.s) r in
    let q : 4 * (length v / 4) ≡ length v = omega arith in
    length_bytes m v entries q w (bytes_part b (start_of sh at_gvec) (4 * sh.s) bb) be ∙ rw n

-- what of a state stands in every message that it sends fits its bytes
pub record Sender (sh : Shape) (st : State) : Type 0 where
  pub group : st.site.group < 256
  pub replica : st.site.replica < 256
  pub view : st.view.g_view < 256 ^ 4
  pub places : length st.view.g_vec ≡ sh.s
  pub g_vec : All (λ v. v < 256 ^ 4) st.view.g_vec

pub sender : {sh : Shape} {st : State} → StateFits sh st → Sender sh st
sender f = record { group = f.group; replica = f.replica; view = f.view; places = f.g_vec_places; g_vec = f.g_vec }

-- how long it is
pub sent_length : (s : ℕ) (st : State) (k g t : ℕ) (xs : List ℕ) (es : List Entry) → length st.view.g_vec ≡ s → bare k ≡ false → length xs ≡ numbers_in k → length (wire_bytes (send st k g t xs es)) ≡ length_for s k (length es)
unfolding wire_bytes head_bytes concat
sent_length s st k g t xs es e b q =
    let v : views_in s k ≡ s = pick_false (bare k) 0 s b in
    simp (length-append, length_le, flat_long (le 4) 4 (length_le 4), flat_long (le 8) 8 (length_le 8), flat_long entry_bytes 24 long_entry, e, q, v) (omega arith)

module _ {sh : Shape} {st : State} {b : List ℕ} (l : Laid sh st b) (f : Sender sh st) where
  pub own_group : num b 0 1 ≡ st.site.group
  own_group = get_head l 0 0 1 st.site.group (lit< tt) refl (lit≤ tt) refl f.group

  pub own_replica : num b 1 1 ≡ st.site.replica
  own_replica = get_head l 1 1 1 st.site.replica (lit< tt) (simp length_le) (lit≤ tt) refl f.replica

  pub own_view : num b 8 4 ≡ st.view.g_view
  own_view = get_head l 4 8 4 st.view.g_view (lit< tt) (simp length_le) (lit≤ tt) refl f.view

  -- the header of what it sends
  pub headed_is : (k g t : ℕ) → headed_in b k g t ≡ headed st k g t
  headed_is k g t = rw (own_group, own_replica, own_view)

  -- the bytes of a case beside the state's gVec are those of what it sends
  pub message_sent : (m : Message) (entries : List ℕ) (k g t : ℕ) (xs : List ℕ) (es : List Entry) → header_in m ≡ headed_in b k g t → numbers_of m ≡ xs → entries ≡ flat entry_bytes es → All EntryFits es → message_bytes sh b m entries ≡ wire_bytes (send st k g t xs es)
  unfolding message_bytes part
  message_sent m entries k g t xs es h q e fe =
      ap wire_bytes (sent_case st m _ entries k g t xs es f.g_vec fe (h ∙ headed_is k g t) q (views_lent (start_of sh at_gvec) (4 * sh.s) l refl refl) e)
