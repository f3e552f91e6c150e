-- Kind 6 for each position past the sync point, in bytes. Assumes nothing.
use Prim.Native.Nat.{ℕ, ◌+◌, ◌-◌, ◌*◌, ◌/◌, ◌≤◌, ◌<◌}
use mathlib.Core.Path.{◌≡◌, refl, sym, ap, ◌∙◌}
use mathlib.Core.List.{List, [], ◌∷◌, append-nil}
use native.Mathlib.Omega.{arith}
use native.Mathlib.Nat.{mul-le-mul}
use native.Mathlib.Numerals.{add-one}
use lib.ListN.{length, take, drop, get_or, length-drop}
use lib.Seq.{take_at, length-take-le}
use Rattle.octets.specs.Bytes.{num, splice, flat}
use Rattle.octets.proofs.Laws.{bytes_known, splice_none, splice_next}
use Rattle.octets.proofs.Codecs.{length_items, get_or_items}
use Rattle.rules.specs.Kind.{row_of}
use Rattle.rules.specs.Choice.{pick, below}
use Rattle.rules.specs.Entry.{no_entry, entry_of}
use Rattle.rules.specs.Wire.{Wire, entry_bytes, wire_bytes}
use Rattle.rules.specs.Read.{entry_at, length_for}
use Rattle.rules.specs.State.{State}
use Rattle.rules.specs.Image.{state_of}
use Rattle.rules.specs.Step.{sends, slow_reply}
use Rattle.rules.specs.declared.Entry.{Entry}
use Rattle.rules.specs.declared.Header.{Header}
use Rattle.rules.specs.declared.Shape.{Shape}
use Rattle.rules.specs.declared.Message.TheVariants.{SlowReply}
use Rattle.rules.proofs.Tests.{all_at}
use Rattle.rules.proofs.Entries.{EntryFits, long_entry, exact_entry}
use Rattle.entries.proofs.Copies.{read_fits}
use Rattle.places.specs.Layout.{Sized}
use Rattle.places.proofs.Sections.{stands_fits, stands_laid, stands_midway}
use Rattle.places.proofs.Head.{sync_of}
use Rattle.places.proofs.Rows.{within}
use Rattle.handler.specs.Sending.{message_bytes, headed_in}
use Rattle.handler.proofs.Rows.{sends_below, sends_more}
use Rattle.handler.proofs.Sends.{sender, message_sent, sent_length}
use Rattle.early.specs.Listed.{listed_in}
use Rattle.syncs.specs.Takes.{slow_replies, Coming}
use Rattle.early.specs.declared.Listed.{Listed}

-- how long it is
pub one_long : (s : ℕ) → length_for s 6 1 ≡ 56 + 4 * s
unfolding pick row_of
one_long s = omega arith

-- for C positions at most
all_fit : (s n : ℕ) → s ≤ 8 → n ≤ 4096 → length_for s 6 1 * n ≤ 360448
all_fit s n h k = let l : length_for s 6 1 ≤ 88 = omega (arith, one_long s) in mul-le-mul l k

-- ---- one of them

module _ {sh : Shape} {b msg : List ℕ} {log : Listed} (g : Coming sh b msg log) (i : ℕ) (l : i < log.count) where
  abbrev from : ℕ
  from = log.at + 24 * i

  -- the entry's bytes as they are lent
  abbrev bytes : List ℕ
  bytes = take (from + 24 - from) (drop from msg)

  abbrev st : State
  st = state_of sh b

  abbrev entries : List Entry
  entries = listed_in msg log

  ends : from + 24 ≤ length msg
  ends = omega (arith, g.inside)

  bytes_long : length bytes ≡ 24
  bytes_long = length-take-le (from + 24 - from) (drop from msg) (simp length-drop (omega (arith, ends))) ∙ omega arith

  pub tell_asked : (at o : ℕ) → at + length_for sh.s 6 1 ≤ o
      → Sized sh b × (24 * (length bytes / 24) ≡ length bytes) × (length bytes ≤ 98304) × (at + (24 + 4 * sh.s + 8 * 1 + length bytes) ≤ o)
  tell_asked at o r =
      (record { fits = g.stands.fits; size = g.stands.size }, omega (arith, bytes_long), omega (arith, bytes_long), omega (arith, bytes_long, one_long sh.s))

  slow_long : length (wire_bytes (slow_reply st entries i)) ≡ length_for sh.s 6 1
  unfolding pick row_of
  slow_long = sent_length sh.s st 6 255 1 _ (entry_of entries i ∷ []) (stands_fits g.stands).g_vec_places refl refl

  module _ (known : (j : ℕ) → get_or msg j 0 < 256) where
    bytes_are : bytes ≡ flat entry_bytes (entry_of entries i ∷ [])
    unfolding flat
    bytes_are =
        let z : from + 24 - from ≡ 24 = omega arith in
        let p = exact_entry.peel msg from (bytes_known msg known) ends in
        rw z (ap (take 24) (sym p) ∙ take_at (entry_bytes (entry_at msg from)) (drop (from + 24) msg) 24 (long_entry (entry_at msg from))
        ∙ ap entry_bytes (sym (get_or_items (entry_at msg) 24 log.at log.count i no_entry l)) ∙ sym (append-nil (entry_bytes (entry_of entries i))))

    slow_bytes : (h : Header) → h ≡ headed_in b 6 255 1 → message_bytes sh b (SlowReply h (i + 1)) bytes ≡ wire_bytes (slow_reply st entries i)
    slow_bytes h e =
        message_sent (stands_laid g.stands) (sender (stands_fits g.stands)) (SlowReply h (i + 1)) bytes 6 255 1 _ (entry_of entries i ∷ []) e (ap (λ (p : ℕ). p ∷ []) (add-one i)) bytes_are
        (all_at EntryFits no_entry entries (read_fits msg log.at log.count (bytes_known msg known) g.inside) i (rw (length_items (entry_at msg) 24 log.at log.count) l), tt)

    pub slow_told : (h : Header) (at r : ℕ) (out u : List ℕ) → h ≡ headed_in b 6 255 1 → r ≡ at + length (message_bytes sh b (SlowReply h (i + 1)) bytes) → u ≡ splice out at (message_bytes sh b (SlowReply h (i + 1)) bytes)
        → (r ≡ at + length_for sh.s 6 1) × (u ≡ splice out at (wire_bytes (slow_reply st entries i)))
    slow_told h at r out u e p q =
        let w = slow_bytes h e in
        (p ∙ ap (λ (x : List ℕ). at + length x) w ∙ ap (λ (k : ℕ). at + k) slow_long, q ∙ ap (splice out at) w)

-- ---- all of them, one after the other

-- position j past the sync point
abbrev past_sync : State → List Entry → ℕ → Wire
past_sync st log j = slow_reply st log (st.logged.sync + j)

-- the first j of them
unfoldable pub told_bytes : State → List Entry → ℕ → List ℕ
told_bytes st log j = flat wire_bytes (sends (past_sync st log) (below j))

-- the positions from the sync point up to i are told
pub record Told (sh : Shape) (b msg : List ℕ) (log : Listed) (out u : List ℕ) (at i : ℕ) : Type 0 where
  pub past : (state_of sh b).logged.sync ≤ i
  pub within : i ≤ log.count
  pub size : length u ≡ length out
  pub even : at ≡ length_for sh.s 6 1 * (i - (state_of sh b).logged.sync)
  pub bytes : u ≡ splice out 0 (told_bytes (state_of sh b) (listed_in msg log) (i - (state_of sh b).logged.sync))

module _ {sh : Shape} {b msg : List ℕ} {log : Listed} (g : Coming sh b msg log) where
  abbrev past : ℕ → Wire
  past = past_sync (state_of sh b) (listed_in msg log)

  pub told_start : (out : List ℕ) → out ≡ splice out 0 (told_bytes (state_of sh b) (listed_in msg log) 0)
  unfolding told_bytes below sends flat
  told_start out = sym (splice_none out 0)

  past_long : (n j : ℕ) → (state_of sh b).logged.sync + n ≤ log.count → j < n → length (wire_bytes (past j)) ≡ length_for sh.s 6 1
  past_long n j h l = slow_long g ((state_of sh b).logged.sync + j) (omega arith)

  told_long : (j : ℕ) → (state_of sh b).logged.sync + j ≤ log.count → length (told_bytes (state_of sh b) (listed_in msg log) j) ≡ length_for sh.s 6 1 * j
  unfolding told_bytes
  told_long j h = sends_below past (length_for sh.s 6 1) j (λ i l. past_long j i h l)

  pub told_room : (sync j at o : ℕ) → sync ≡ (state_of sh b).logged.sync → j < log.count - sync → length_for sh.s 6 1 * (log.count - (state_of sh b).logged.sync) ≤ o → at ≡ length_for sh.s 6 1 * j → at + length_for sh.s 6 1 ≤ o
  told_room sync j at o z l h e =
      let k : j < log.count - (state_of sh b).logged.sync = rw z at l in
      omega (arith, within (length_for sh.s 6 1) j (log.count - (state_of sh b).logged.sync) k)

  pub told_turn : (sync j at r : ℕ) (out u v : List ℕ) → sync ≡ (state_of sh b).logged.sync → sync + j < log.count → at ≡ length_for sh.s 6 1 * j → at ≤ length out → u ≡ splice out 0 (told_bytes (state_of sh b) (listed_in msg log) j)
      → (r ≡ at + length_for sh.s 6 1) × (v ≡ splice u at (wire_bytes (slow_reply (state_of sh b) (listed_in msg log) (sync + j)))) → (r ≡ length_for sh.s 6 1 * (j + 1)) × (v ≡ splice out 0 (told_bytes (state_of sh b) (listed_in msg log) (j + 1)))
  unfolding told_bytes
  told_turn sync j at r out u v z l e w q k =
      let y : List ℕ = wire_bytes (past j) in
      let a : at ≡ 0 + at = omega arith in
      let m : v ≡ splice u (0 + at) y = k.1 ∙ ap (λ (i : ℕ). splice u at (wire_bytes (slow_reply (state_of sh b) (listed_in msg log) (i + j)))) z ∙ ap (λ (i : ℕ). splice u i y) a in
      let t : length (flat wire_bytes (sends past (below j))) ≡ at = told_long j (omega arith) ∙ sym e in
      (k.0 ∙ omega arith, splice_next out 0 at (flat wire_bytes (sends past (below j))) y u v (omega arith) t q m ∙ ap (splice out 0) (sym (sends_more past j)))

  pub told_all : (sync n j at : ℕ) (out u : List ℕ) → sync ≡ (state_of sh b).logged.sync → n ≡ log.count - sync → j ≤ n → n ≤ j → at ≡ length_for sh.s 6 1 * j → u ≡ splice out 0 (told_bytes (state_of sh b) (listed_in msg log) j)
      → (at ≡ length (flat wire_bytes (slow_replies (state_of sh b) (listed_in msg log)))) × (u ≡ splice out 0 (flat wire_bytes (slow_replies (state_of sh b) (listed_in msg log))))
  unfolding told_bytes slow_replies
  told_all sync n j at out u z m h k e q =
      let c : length (listed_in msg log) ≡ log.count = length_items (entry_at msg) 24 log.at log.count in
      let w : length (listed_in msg log) - (state_of sh b).logged.sync ≡ j = omega arith in
      rw w (e ∙ sym (told_long j (omega (arith, g.past))), q)

  -- the same of what is told so far
  abbrev sync : ℕ
  sync = (state_of sh b).logged.sync

  pub told_none : (i : ℕ) (out : List ℕ) → i ≡ num b 24 8 → Told sh b msg log out out 0 i
  told_none i out e =
      let z : i ≡ sync = e ∙ sync_of (stands_midway g.stands) in
      let j : i - sync ≡ 0 = omega arith in
      record { past = omega arith; within = omega (arith, g.past); size = refl; even = rw j (omega arith); bytes = rw j (told_start out) }

  module _ (out u : List ℕ) (at i : ℕ) (t : Told sh b msg log out u at i) where
    module _ (l : i < log.count) (h : length_for sh.s 6 1 * (log.count - sync) ≤ length out) where
      pub told_fits : at + length_for sh.s 6 1 ≤ length u
      told_fits = omega (arith, told_room sync (i - sync) at (length out) refl (omega (arith, t.past)) h t.even, t.size)

      pub told_more : (r : ℕ) (v : List ℕ) → (r ≡ at + length_for sh.s 6 1) × (v ≡ splice u at (wire_bytes (slow_reply (state_of sh b) (listed_in msg log) i))) → length v ≡ length u → Told sh b msg log out v r (i + 1)
      told_more r v k s =
          let z : i ≡ sync + (i - sync) = omega (arith, t.past) in
          let n : i + 1 - sync ≡ i - sync + 1 = omega (arith, t.past) in
          let w = told_turn sync (i - sync) at r out u v refl (omega (arith, t.past)) t.even (omega (arith, told_fits, t.size)) t.bytes (k.0, k.1 ∙ ap (λ (x : ℕ). splice u at (wire_bytes (slow_reply (state_of sh b) (listed_in msg log) x))) z) in
          record { past = omega (arith, t.past); within = omega arith; size = s ∙ t.size; even = rw n w.0; bytes = rw n w.1 }

    pub told_done : log.count ≤ i → (at ≡ length (flat wire_bytes (slow_replies (state_of sh b) (listed_in msg log)))) × (u ≡ splice out 0 (flat wire_bytes (slow_replies (state_of sh b) (listed_in msg log))))
    told_done h = told_all sync (log.count - sync) (i - sync) at out u refl refl (omega (arith, t.within)) (omega (arith, t.past)) t.even t.bytes

  -- together
  pub all_long : length (flat wire_bytes (slow_replies (state_of sh b) (listed_in msg log))) ≡ length_for sh.s 6 1 * (log.count - (state_of sh b).logged.sync)
  unfolding told_bytes slow_replies
  all_long =
      let c : length (listed_in msg log) ≡ log.count = length_items (entry_at msg) 24 log.at log.count in
      rw c (told_long (log.count - (state_of sh b).logged.sync) (omega (arith, g.past)))

  pub product : (sync k : ℕ) → sync ≡ num b 24 8 → k ≡ length_for sh.s 6 1 → (k * (log.count - sync) ≤ 360448) × (k * (log.count - sync) ≡ length_for sh.s 6 1 * (log.count - (state_of sh b).logged.sync))
  product sync k e f =
      let z : sync ≡ (state_of sh b).logged.sync = e ∙ sync_of (stands_midway g.stands) in
      rw (f, z) (all_fit sh.s (log.count - (state_of sh b).logged.sync) g.stands.fits.few (omega (arith, g.room, g.stands.fits.small)), refl)
