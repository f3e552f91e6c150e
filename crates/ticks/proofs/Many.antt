-- Releases one after the other, each with its reply. Assumes nothing.
use Prim.Native.Nat.{ℕ, suc, ◌+◌, ◌*◌, ◌≤◌, ◌<◌}
use mathlib.Core.Path.{◌≡◌, refl, sym, ap, ap₂, ◌∙◌}
use mathlib.Core.List.{List, [], ◌∷◌, ◌++◌, append_assoc, append-nil}
use native.Mathlib.Omega.{arith}
use native.Mathlib.Numerals.{add-one}
use lib.ListN.{length, take, drop, length-append, get_or-append}
use lib.Seq.{drop_at, take-suc, take_all, take-append-le, get_or-take, get_or-append-add, length-take-le}
use Rattle.octets.specs.Bytes.{flat}
use Rattle.rules.specs.Kind.{row_of}
use Rattle.rules.specs.Choice.{pick, below}
use Rattle.rules.specs.Entry.{no_entry, entry_of}
use Rattle.rules.specs.Wire.{Wire, wire_bytes}
use Rattle.rules.specs.Read.{length_for}
use Rattle.rules.specs.Digest.{digest}
use Rattle.rules.specs.State.{State, with_logged}
use Rattle.rules.specs.Step.{sends, send_out, released, placed_reply, placed_replies}
use Rattle.rules.specs.Early.{due_of}
use Rattle.rules.specs.declared.Entry.{Entry}
use Rattle.rules.proofs.Choice.{all_map}
use Rattle.early.proofs.Kept.{without_none}
use Rattle.notes.proofs.Leaving as notes
use Rattle.releases.specs.Releasing.{logging, early_left, notes_left}
use Rattle.handler.proofs.Rows.{all_below, flat_ext, sends_flat, sends_below, sends_more}
use Rattle.handler.proofs.Sends.{sent_length}

-- the last of those that are taken
pub taken_at : (ds : List Entry) (j : ℕ) → entry_of (take (j + 1) ds) j ≡ entry_of ds j
taken_at ds j = let z : j < j + 1 = omega arith in rw get_or-take

-- ---- the replies

module _ (st : State) (ds : List Entry) where
  -- reply j, of those for the first i
  abbrev reply : ℕ → ℕ → Wire
  reply i j = placed_reply st (st.logged.log ++ take i ds) (length st.logged.log + j)

  -- does not change with i
  reply_stays : (i j : ℕ) → i < length ds → j < i → reply (i + 1) j ≡ reply i j
  unfolding placed_reply
  reply_stays i j l h =
      let log = st.logged.log in
      let a : log ++ take (i + 1) ds ≡ (log ++ take i ds) ++ (entry_of ds i ∷ []) = rw add-one (ap (λ (x : List Entry). log ++ x) (take-suc ds i no_entry l) ∙ sym (append_assoc log (take i ds) (entry_of ds i ∷ []))) in
      let n : length (log ++ take i ds) ≡ length log + i = length-append log (take i ds) ∙ ap (λ (k : ℕ). length log + k) (length-take-le i ds (omega arith)) in
      let b : suc (length log + j) ≤ length (log ++ take i ds) = omega arith in
      let c : length log + j < length (log ++ take i ds) = omega arith in
      rw (a, take-append-le (suc (length log + j)) (log ++ take i ds) (entry_of ds i ∷ []) b, get_or-append (log ++ take i ds) (entry_of ds i ∷ []) no_entry (length log + j) c)

  -- the last one: its position is the log's length, and the digest that of the whole log
  reply_last : (i : ℕ) → i < length ds → reply (i + 1) i ≡ send_out st 5 (1 ∷ (length st.logged.log + i + 1) ∷ digest (st.logged.log ++ take (i + 1) ds) ∷ []) (entry_of ds i)
  unfolding placed_reply
  reply_last i l =
      let log = st.logged.log in
      let n : length (log ++ take (i + 1) ds) ≡ length log + (i + 1) = length-append log (take (i + 1) ds) ∙ ap (λ (k : ℕ). length log + k) (length-take-le (i + 1) ds (omega arith)) in
      let p : suc (length log + i) ≡ length log + i + 1 = omega arith in
      let t : take (suc (length log + i)) (log ++ take (i + 1) ds) ≡ log ++ take (i + 1) ds = take_all (suc (length log + i)) (log ++ take (i + 1) ds) (omega arith) in
      let e : entry_of (log ++ take (i + 1) ds) (length log + i) ≡ entry_of ds i = get_or-append-add log (take (i + 1) ds) i no_entry ∙ taken_at ds i in
      rw (t, e, p)

  replies_are : (i : ℕ) → i ≤ length ds → placed_replies st (take i ds) ≡ sends (reply i) (below i)
  replies_are i l = ap (λ (k : ℕ). sends (reply i) (below k)) (length-take-le i ds l)

  -- one reply more
  pub replies_more : (i : ℕ) → i < length ds
      → flat wire_bytes (placed_replies st (take (i + 1) ds)) ≡ flat wire_bytes (placed_replies st (take i ds)) ++ wire_bytes (send_out st 5 (1 ∷ (length st.logged.log + i + 1) ∷ digest (st.logged.log ++ take (i + 1) ds) ∷ []) (entry_of ds i))
  replies_more i l =
      let same : flat wire_bytes (sends (reply (i + 1)) (below i)) ≡ flat wire_bytes (sends (reply i) (below i))
      = sends_flat (reply (i + 1)) (below i) ∙ flat_ext (λ j. wire_bytes (reply (i + 1) j)) (λ j. wire_bytes (reply i j)) (below i) (all_map (λ j h. ap wire_bytes (reply_stays i j l h)) (below i) (all_below i)) ∙ sym (sends_flat (reply i) (below i)) in
      ap (flat wire_bytes) (replies_are (i + 1) (omega arith))
      ∙ sends_more (reply (i + 1)) i
      ∙ ap₂ ◌++◌ (same ∙ ap (flat wire_bytes) (sym (replies_are i (omega arith)))) (ap wire_bytes (reply_last i l))

  -- how long they are
  pub replies_length : (s : ℕ) → length st.view.g_vec ≡ s → (i : ℕ) → i ≤ length ds → length (flat wire_bytes (placed_replies st (take i ds))) ≡ length_for s 5 1 * i
  unfolding placed_reply pick row_of
  replies_length s e i l = ap (λ (ws : List Wire). length (flat wire_bytes ws)) (replies_are i l) ∙ sends_below (reply i) (length_for s 5 1) i (λ j h. long j)
    where
      long : (j : ℕ) → length (wire_bytes (reply i j)) ≡ length_for s 5 1
      long j = sent_length s st 5 255 1 _ _ e refl refl

-- ---- the states

module _ (st : State) (time : ℕ) where
  -- those due
  abbrev pub dues : List Entry
  dues = due_of time st.waiting.early

  -- with the first i of them at the end of the log
  abbrev pub longer : ℕ → State
  longer i = with_logged (st.logged.log ++ take i dues) st.logged.sync st.logged.commit st

  pub longer_start : longer 0 ≡ st
  longer_start = rw (append-nil st.logged.log)

  pub longer_log : (i : ℕ) → i < length dues → (st.logged.log ++ take i dues) ++ (entry_of dues i ∷ []) ≡ st.logged.log ++ take (i + 1) dues
  longer_log i l = append_assoc st.logged.log (take i dues) (entry_of dues i ∷ []) ∙ rw add-one (ap (λ (x : List Entry). st.logged.log ++ x) (sym (take-suc dues i no_entry l)))

  pub longer_next : (i : ℕ) → i < length dues → logging (longer i) (entry_of dues i) ≡ longer (i + 1)
  longer_next i l = ap (λ (es : List Entry). with_logged es st.logged.sync st.logged.commit st) (longer_log i l)

  -- those that are new in it
  pub longer_rest : (n i : ℕ) → n ≡ length st.logged.log → drop n (longer i).logged.log ≡ take i dues
  longer_rest n i e = drop_at st.logged.log (take i dues) n (sym e)

  -- once they left early and the notes they are released
  pub longer_released : (n i : ℕ) → n ≡ length st.logged.log
      → notes_left (early_left (longer i) (drop n (longer i).logged.log)) (drop n (longer i).logged.log) ≡ released st st.clock st.logged.sync (take i dues)
  longer_released n i e = ap (λ (gone : List Entry). notes_left (early_left (longer i) gone) gone) (longer_rest n i e)

  -- none is released
  pub released_none : released st st.clock st.logged.sync (take 0 dues) ≡ st
  released_none = rw (append-nil st.logged.log, without_none st.waiting.early, notes.without_none st.waiting.notes)
