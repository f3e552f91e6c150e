-- What the point that a follower reports changes: the points heard, and the commit point. Assumes nothing.
use Prim.Native.Nat.{ℕ, zero, suc, ◌+◌, ◌*◌, ◌^◌, ◌<◌}
use mathlib.Core.Path.{◌≡◌, refl, ap, ◌∙◌}
use mathlib.Core.Option.{Option, some}
use mathlib.Core.List.{List, [], ◌∷◌}
use lib.ListN.{take, drop, set, length-set}
use lib.Dec.{lit<, lit≤}
use Rattle.octets.specs.Bytes.{le, num, splice}
use Rattle.octets.proofs.Laws.{length_le}
use Rattle.octets.proofs.Codecs.{All}
use Rattle.rules.specs.State.{State, with_heard}
use Rattle.rules.specs.Image.{point_bytes, image, at_heard}
use Rattle.rules.specs.Commit.{commit_point}
use Rattle.rules.specs.Step.{committed}
use Rattle.rules.specs.declared.Shape.{Shape}
use Rattle.rules.proofs.Tables.{in_row, PointFits, point}
use Rattle.group.specs.Points.{points}
use Rattle.places.specs.Layout.{start_of, Stands}
use Rattle.places.proofs.Sections.{Laid, stands_fits, stands_laid, lent}
use Rattle.places.proofs.Head.{get_head, put_commit}
use Rattle.places.proofs.Kept.{put_heard}

all_set : {A : Type 0} (P : A → Type 0) (xs : List A) (i : ℕ) (y : A) → All P xs → P y → All P (set xs i y)
all_set P [] i y f g = f
all_set P (x ∷ xs) zero y f g = (g, f.1)
all_set P (x ∷ xs) (suc i) y f g = (f.0, all_set P xs i y f.1 g)

module _ {sh : Shape} {st : State} {b : List ℕ} (s : Stands sh st b) (from p : ℕ) (h : from < sh.n) (f : p < 256 ^ 8) {b₁ : List ℕ} (w : b₁ ≡ splice b (start_of sh at_heard + 9 * from) (point_bytes (some p))) where
  abbrev heard : List (Option ℕ)
  heard = set st.heard from (some p)

  laid : Laid sh (with_heard heard st) b₁
  laid = put_heard (stands_laid s) from (some p) h w

  points_heard : (at n : ℕ) → at ≡ start_of sh at_heard → n ≡ 9 * sh.n → points sh.n (take n (drop at b₁)) ≡ heard
  points_heard at n e r =
      ap (points sh.n) (lent laid 2 at n (lit< tt) e r)
      ∙ in_row point heard sh.n (length-set st.heard from (some p) ∙ (stands_fits s).heard_places) (all_set PointFits st.heard from (some p) (stands_fits s).heard f)

  pub status_kept : (len own old at n r : ℕ) (b₂ : List ℕ) → own ≡ num b₁ 1 1 → old ≡ num b₁ 32 8 → at ≡ start_of sh at_heard → n ≡ 9 * sh.n → r ≡ commit_point sh.n own len (points sh.n (take n (drop at b₁))) old → b₂ ≡ splice b₁ 32 (le 8 r) → (r ≡ commit_point sh.n st.site.replica len heard st.logged.commit) × (b₂ ≡ image sh (committed st r heard))
  status_kept len own old at n r b₂ o q e m c x =
      let i : own ≡ st.site.replica = o ∙ get_head laid 1 1 1 st.site.replica (lit< tt) (simp length_le) (lit≤ tt) refl (stands_fits s).replica in
      let j : old ≡ st.logged.commit = q ∙ get_head laid 8 32 8 st.logged.commit (lit< tt) (simp length_le) (lit≤ tt) refl (stands_fits s).commit in
      (c ∙ rw (i, j, points_heard at n e m), (put_commit laid r x).bytes)
