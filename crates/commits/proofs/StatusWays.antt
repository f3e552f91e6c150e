-- The ways through the handler of kind 10. Assumes nothing.
use Prim.Native.Nat.{ℕ, ◌+◌, ◌*◌, ◌≤◌, ◌<◌}
use mathlib.Core.Path.{◌≡◌, refl, sym, ap, ◌∙◌}
use mathlib.Core.Bool.{Bool, true, false}
use mathlib.Core.Option.{Option, none, some}
use mathlib.Core.List.{List, [], ◌∷◌}
use native.Mathlib.Omega.{arith}
use lib.ListN.{length, get_or, set}
use lib.Dec.{eqb}
use borrow.Author.Tests.{lt-ltb, le-ltb}
use Rattle.std.specs.Prelude as Maybe
use Rattle.std.specs.Prelude.{MatchOption}
use Rattle.std.specs.Bool.{then_some}
use Rattle.octets.specs.Bytes.{num, splice, flat}
use Rattle.rules.specs.Choice.{pick, is_some, any}
use Rattle.rules.specs.Group.{only}
use Rattle.rules.specs.Wire.{Wire, wire_bytes, tag_of, header_in, numbers_of}
use Rattle.rules.specs.Kind.{known, row_of}
use Rattle.rules.specs.Wire as wires
use Rattle.rules.specs.Read.{wire_in, length_for}
use Rattle.rules.specs.State.{State}
use Rattle.rules.specs.Image.{point_at, image, state_of, at_heard}
use Rattle.rules.specs.Commit.{commit_point}
use Rattle.rules.specs.Step.{refused, done, send, stale, committed, on_sync_status}
use Rattle.rules.specs.Bytes.{Left, leaves}
use Rattle.rules.specs.declared.Header.{Header}
use Rattle.rules.specs.declared.Shape.{Shape}
use Rattle.rules.specs.declared.Message.{Message}
use Rattle.rules.specs.declared.Message.TheVariants.{SyncStatus, Commit}
use Rattle.places.specs.Layout.{start_of, Stands}
use Rattle.places.proofs.Sections.{Laid, laid_as, stands_fits, stands_laid, stands_midway}
use Rattle.places.proofs.Head.{put_commit}
use Rattle.places.proofs.Kept.{put_heard, heard_at}
use Rattle.handler.specs.Handler.{Ready, handled}
use Rattle.handler.specs.Sending.{message_bytes, headed_in}
use Rattle.handler.proofs.Ways.{refuses, no_room_for, sends_one, said_number, said_replica, said_sender}
use Rattle.handler.proofs.Sends.{Sender, sender, sent_length, own_group, message_sent}

-- ---- what is read

-- a point that was heard is read as such
pub reported_read : (b : List ℕ) (a v : ℕ) (f : Bool) (r : Maybe.Option ℕ) → f ≡ is_some (point_at b a) → v ≡ num b (a + 1) 8 → r ≡ then_some f v → MatchOption r (point_at b a ≡ none) (λ last. point_at b a ≡ some last)
unfolding point_at pick
reported_read b a v f r e q t = rw (t, e, q) (go (eqb (num b a 1) 0))
  where
    go : (t : Bool) → MatchOption (then_some (is_some (pick t none (some (num b (a + 1) 8)))) (num b (a + 1) 8)) (pick t none (some (num b (a + 1) 8)) ≡ none) (λ last. pick t none (some (num b (a + 1) 8)) ≡ some last)
    go true = refl
    go false = refl

module _ {sh : Shape} {st : State} {b : List ℕ} (s : Stands sh st b) where
  -- ---- what is kept and sent
  module _ (from p c : ℕ) (l : from < sh.n) (b' : List ℕ) where
    abbrev next : State
    next = committed st c (set st.heard from (some p))

    kept_laid : b' ≡ image sh next → Laid sh next b'
    kept_laid e = laid_as (put_commit (put_heard (stands_laid s) from (some p) l refl) c refl) e

    kept_sender : Sender sh next
    kept_sender = let f = sender (stands_fits s) in record { group = f.group; replica = f.replica; view = f.view; places = f.places; g_vec = f.g_vec }

    pub commit_sent : b' ≡ image sh next → message_bytes sh b' (Commit (headed_in b' 11 (num b' 0 1) (only from)) c) [] ≡ wire_bytes (send st 11 st.site.group (only from) (c ∷ []) [])
    unfolding flat
    commit_sent e =
        message_sent (kept_laid e) kept_sender (Commit (headed_in b' 11 (num b' 0 1) (only from)) c) [] 11 st.site.group (only from) (c ∷ []) []
        (ap (λ (g : ℕ). headed_in b' 11 g (only from)) (own_group (kept_laid e) kept_sender)) refl refl tt

  pub commit_long : (to c : ℕ) → length (wire_bytes (send st 11 st.site.group to (c ∷ []) [])) ≡ length_for sh.s 11 0
  unfolding pick row_of
  commit_long to c = sent_length sh.s st 11 st.site.group to (c ∷ []) [] (stands_fits s).g_vec_places refl refl

-- ---- the rule at a point

module _ (sh : Shape) (st : State) (w : Wire) (from p : ℕ) (f : w.from_replica ≡ from) (e : wires.number w 0 ≡ p) where
  old : stale p (get_or st.heard from none) ≡ true → on_sync_status sh st w ≡ refused 7
  unfolding on_sync_status pick
  old h = rw (f, e, h)

  past : stale p (get_or st.heard from none) ≡ false → length st.logged.log < p → on_sync_status sh st w ≡ refused 7
  unfolding on_sync_status pick
  past h g = rw (f, e, h, lt-ltb (length st.logged.log) p g)

  news : stale p (get_or st.heard from none) ≡ false → p ≤ length st.logged.log → (c : ℕ) → c ≡ commit_point sh.n st.site.replica (length st.logged.log) (set st.heard from (some p)) st.logged.commit
      → on_sync_status sh st w ≡ done (committed st c (set st.heard from (some p))) (send st 11 st.site.group (only from) (c ∷ []) [] ∷ [])
  unfolding on_sync_status pick
  news h g c q = rw (f, e, h, le-ltb (length st.logged.log) p g, q)

-- ---- the ways

module _ (sh : Shape) (b msg out : List ℕ) (m : Message) (h : Header) (p : ℕ) (r : Ready sh b m msg) (e : m ≡ SyncStatus h p) where
  abbrev st : State
  st = state_of sh b

  abbrev from : ℕ
  from = h.from_replica

  abbrev heard : List (Option ℕ)
  heard = set st.heard from (some p)

  own : tag_of m ≡ 10
  own = ap tag_of e

  kind_known : known 10 ≡ true
  unfolding pick any
  kind_known = refl

  point_is : wires.number (wire_in sh.s msg) 0 ≡ p
  point_is = said_number r 10 own kind_known 0 ∙ ap (λ (x : Message). get_or (numbers_of x) 0 0) e

  from_is : (wire_in sh.s msg).from_replica ≡ from
  from_is = said_replica r 10 own kind_known ∙ ap (λ (x : Message). (header_in x).from_replica) e

  -- the sender is a replica of the group
  pub from_below : from < sh.n
  unfolding row_of
  from_below = rw e at (said_sender r 10 own kind_known refl).1

  stale_is : (t v : Bool) → t ≡ stale p (point_at b (start_of sh at_heard + 9 * from)) → t ≡ v → stale p (get_or st.heard from none) ≡ v
  stale_is t v q z = ap (stale p) (sym (heard_at (stands_midway r.stands) from from_below)) ∙ sym q ∙ z

  pub not_news : (t : Bool) → t ≡ stale p (point_at b (start_of sh at_heard + 9 * from)) → t ≡ true → leaves 7 b out ≡ handled 10 on_sync_status sh m b msg out
  not_news t q z = refuses 10 on_sync_status sh b msg out m own 7 (old sh st _ from p from_is point_is (stale_is t true q z))

  module _ (t : Bool) (q : t ≡ stale p (point_at b (start_of sh at_heard + 9 * from))) (z : t ≡ false) (len : ℕ) (d : len ≡ length st.logged.log) where
    pub past_log : len < p → leaves 7 b out ≡ handled 10 on_sync_status sh m b msg out
    past_log g = refuses 10 on_sync_status sh b msg out m own 7 (past sh st _ from p from_is point_is (stale_is t false q z) (rw d at g))

    module _ (g : p ≤ len) where
      says : (c : ℕ) → c ≡ commit_point sh.n st.site.replica len heard st.logged.commit → on_sync_status sh st (wire_in sh.s msg) ≡ done (committed st c heard) (send st 11 st.site.group (only from) (c ∷ []) [] ∷ [])
      says c y = news sh st _ from p from_is point_is (stale_is t false q z) (rw d at g) c (rw d at y)

      pub no_room : (need : ℕ) → need ≡ length_for sh.s 11 0 → length out < need → leaves 9 b out ≡ handled 10 on_sync_status sh m b msg out
      no_room need n k =
          let c = commit_point sh.n st.site.replica len heard st.logged.commit in
          no_room_for 10 on_sync_status sh b msg out m own _ _ (says c refl) (omega (arith, commit_long r.stands (only from) c))

      pub kept : (need c sent : ℕ) (b' out' : List ℕ) → need ≡ length_for sh.s 11 0 → need ≤ length out → c ≡ commit_point sh.n st.site.replica len heard st.logged.commit → b' ≡ image sh (committed st c heard)
          → sent ≡ length (message_bytes sh b' (Commit (headed_in b' 11 (num b' 0 1) (only from)) c) [])
          → out' ≡ splice out 0 (message_bytes sh b' (Commit (headed_in b' 11 (num b' 0 1) (only from)) c) [])
          → ◌≡◌ {A = Left} (record { refused = false; number = 0; offset = 0; sent = sent; state = b'; out = out' }) (handled 10 on_sync_status sh m b msg out)
      kept need c sent b' out' n k y w v o =
          let x = commit_sent r.stands from p c from_below b' w in
          sends_one 10 on_sync_status sh b msg out m own _ _ (says c y) b' out' sent (omega (arith, commit_long r.stands (only from) c)) w (v ∙ ap length x) (o ∙ ap (splice out 0) x)
