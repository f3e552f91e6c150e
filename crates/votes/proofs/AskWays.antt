-- The ways through the asking of all other groups. Assumes nothing.
use Prim.Native.Nat.{ℕ, ◌-◌, ◌*◌, ◌^◌, ◌≤◌, ◌<◌}
use mathlib.Core.Path.{◌≡◌, refl, sym, ap, ◌∙◌}
use mathlib.Core.Bool.{true, not, ◌&&◌, false}
use mathlib.Core.Option.{Option}
use mathlib.Core.List.{List, [], ◌∷◌}
use native.Mathlib.Omega.{arith}
use lib.ListN.{length}
use lib.Dec.{eqb}
use Rattle.octets.specs.Bytes.{splice, flat}
use Rattle.octets.proofs.Laws.{Bytes}
use Rattle.rules.specs.Kind.{row_of}
use Rattle.rules.specs.Choice.{pick, keep, below}
use Rattle.rules.specs.Group.{holds, only, leader}
use Rattle.rules.specs.Wire.{Wire, wire_bytes}
use Rattle.rules.specs.Read.{length_for}
use Rattle.rules.specs.State.{Vote, State}
use Rattle.rules.specs.Image.{table_at, image, state_of}
use Rattle.rules.specs.Step.{sends, send_leader, other_groups, changing}
use Rattle.rules.specs.Bytes.{Left, leaves, closes}
use Rattle.rules.specs.declared.Entry.{Entry}
use Rattle.rules.specs.declared.Shape.{Shape}
use Rattle.rules.proofs.Choice.{all_given}
use Rattle.entries.specs.Table.{Table}
use Rattle.places.specs.Layout.{Stands}
use Rattle.places.proofs.Sections.{Laid, stands_fits, stands_laid}
use Rattle.handler.specs.Sending.{others_in, leader_bytes}
use Rattle.handler.proofs.Closes.{closes_sent, closes_tight}
use Rattle.handler.proofs.Rows.{sends_length}
use Rattle.handler.proofs.Sends.{Sender, sender, sent_length}
use Rattle.handler.proofs.Leaders.{all_others, others_are, verifies_sent}
use Rattle.ballots.specs.Ballots.{votes_in}
use Rattle.ballots.specs.declared.Cast.{Cast}
use Rattle.votes.specs.Votes.{Brought, came_to, kept_in, drafted_in, asks_all}
use Rattle.votes.proofs.Came.{Comes, comes, kept_laid, drafted}

-- the other groups of a mask, by the own one
abbrev others_of : Shape → ℕ → ℕ → List ℕ
others_of sh mask g = keep (λ j. not (eqb j g) && holds mask j) (below sh.s)

-- how long a verify request is
pub ask_need : (s need : ℕ) → s ≤ 8 → need ≡ length_for s 18 0 → need ≤ 64
unfolding pick row_of
ask_need s need h e = omega arith

module _ (sh : Shape) (b msg : List ℕ) (view : ℕ) (k : Cast) (g : Brought sh b msg view k) (bs : Bytes msg) (v : view < 256 ^ 4) (out t : List ℕ) (h : Table sh.c t) (boundary mask count : ℕ) (m : mask ≡ 2 ^ sh.s - 1) (n : count ≡ length (others_in sh b mask)) where
  abbrev here : State
  here = came_to sh b msg view k.entering

  abbrev votes : List (Option Vote)
  votes = votes_in sh b msg k

  abbrev draft : List Entry
  draft = table_at sh.c t 0

  abbrev next : State
  next = changing here 3 votes draft boundary here.change.replies

  abbrev asks : ℕ → Wire
  asks j = send_leader sh here 18 j (boundary ∷ []) []

  abbrev sent_all : List Wire
  sent_all = sends asks (other_groups sh here (λ j. true))

  abbrev outcome : Left
  outcome = closes sh b out (asks_all sh here votes draft boundary)

  stands : Stands sh (state_of sh b) b
  stands = g.given.sent.stands

  come : Comes sh b msg view k here
  come = comes sh b msg view k g bs v

  groups_are : other_groups sh here (λ j. true) ≡ other_groups sh here (holds mask)
  groups_are = all_others sh here stands.fits.few ∙ ap (λ (x : ℕ). other_groups sh here (holds x)) (sym m)

  others_here : other_groups sh here (holds mask) ≡ others_in sh b mask
  others_here = ap (others_of sh mask) come.group ∙ sym (others_are (stands_laid stands) (sender (stands_fits stands)) mask)

  long : (need : ℕ) → need ≡ length_for sh.s 18 0 → length (flat wire_bytes sent_all) ≡ need * count
  unfolding pick row_of
  long need e =
      sends_length asks (length_for sh.s 18 0) (other_groups sh here (λ j. true))
      (all_given (λ j. sent_length sh.s here 18 j (only (leader sh.n here.view.g_vec j)) (boundary ∷ []) [] come.sends.places refl refl) (other_groups sh here (λ j. true)))
      ∙ rw (e, n, groups_are, others_here)

  pub ask_short : (need : ℕ) → need ≡ length_for sh.s 18 0 → length out < need * count → leaves 9 b out ≡ outcome
  ask_short need e l = sym (closes_tight sh b out next sent_all (rw (long need e) l))

  module _ (need : ℕ) (e : need ≡ length_for sh.s 18 0) (l : need * count ≤ length out) (b₁ b₂ : List ℕ) (kept : b₁ ≡ image sh (kept_in sh b msg view k)) (w : b₂ ≡ drafted_in sh b₁ draft boundary) where
    next_laid : Laid sh next b₂
    next_laid = drafted (kept_laid sh b msg view k g bs v kept) draft boundary h.room w

    next_sender : Sender sh next
    next_sender = let s = come.sends in record { group = s.group; replica = s.replica; view = s.view; places = s.places; g_vec = s.g_vec }

    -- there is room for what is told
    pub ask_tells : length_for sh.s 18 0 * length (others_in sh b₂ mask) ≤ length out
    ask_tells =
        let x : others_in sh b₂ mask ≡ others_in sh b mask = others_are next_laid next_sender mask ∙ others_here in
        rw (x, ← n, ← e) l

    pub ask_sent : (sent : ℕ) (out' : List ℕ) → sent ≡ length (flat (leader_bytes sh b₂ 18 boundary []) (others_in sh b₂ mask)) → out' ≡ splice out 0 (flat (leader_bytes sh b₂ 18 boundary []) (others_in sh b₂ mask)) → ◌≡◌ {A = Left} (record { refused = false; number = 0; offset = 0; sent = sent; state = b₂; out = out' }) outcome
    ask_sent sent out' q o =
        let y : flat (leader_bytes sh b₂ 18 boundary []) (others_in sh b₂ mask) ≡ flat wire_bytes sent_all = verifies_sent next_laid next_sender boundary mask ∙ ap (λ (js : List ℕ). flat wire_bytes (sends asks js)) (sym groups_are) in
        sym (closes_sent sh b out next sent_all (rw (long need e) l) ∙ rw (q, o, y, next_laid.bytes))
