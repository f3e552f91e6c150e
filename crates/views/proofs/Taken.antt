-- The gView and the gVec of a message taken over. Assumes nothing.
use Prim.Native.Nat.{ℕ, ◌+◌, ◌*◌, ◌^◌, ◌≤◌, ◌<◌}
use mathlib.Core.Path.{◌≡◌, refl, ap, ◌∙◌}
use mathlib.Core.List.{List}
use native.Mathlib.Omega.{arith}
use lib.ListN.{length}
use Rattle.octets.specs.Bytes.{le, num, part, splice}
use Rattle.octets.proofs.Laws.{Bytes, num_lt}
use Rattle.octets.proofs.Codecs.{All, length_items}
use Rattle.rules.specs.State.{State, in_view}
use Rattle.rules.specs.Image.{at_gvec}
use Rattle.rules.specs.declared.Shape.{Shape}
use Rattle.rules.proofs.Tests.{all_items}
use Rattle.places.specs.Layout.{start_of}
use Rattle.places.proofs.Sections.{Laid}
use Rattle.places.proofs.Head.{put_view}
use Rattle.places.proofs.Kept.{put_views, views_in}
use Rattle.views.specs.Views.{views_of, taken_in}

-- ---- the views of a message

module _ (sh : Shape) (msg : List ℕ) where
  pub views_long : length (views_of sh msg) ≡ sh.s
  views_long = length_items (λ a. num msg a 4) 4 16 sh.s

  pub views_fit : Bytes msg → 16 + 4 * sh.s ≤ length msg → All (λ v. v < 256 ^ 4) (views_of sh msg)
  views_fit bs h = all_items (λ v. v < 256 ^ 4) (λ a. num msg a 4) 4 16 sh.s (λ i l. num_lt msg (16 + 4 * i) 4 bs (omega arith))

-- ---- what is written

pub taken_in_lem : (sh : Shape) (b b₁ b₂ msg : List ℕ) (view : ℕ) → b₁ ≡ splice b 8 (le 4 view) → b₂ ≡ splice b₁ (start_of sh at_gvec) (part msg 16 (4 * sh.s)) → b₂ ≡ taken_in sh b view msg
taken_in_lem sh b b₁ b₂ msg view w₁ w₂ = w₂ ∙ rw w₁

module _ {sh : Shape} {st : State} {b : List ℕ} (l : Laid sh st b) where
  pub view_taken : {b' : List ℕ} (view : ℕ) (msg : List ℕ) → Bytes msg → 16 + 4 * sh.s ≤ length msg → b' ≡ taken_in sh b view msg → Laid sh (in_view view (views_of sh msg) st.view.normal st.view.status st) b'
  view_taken view msg bs h w =
      put_views (put_view l view refl) (views_of sh msg) (views_long sh msg) (w ∙ ap (splice (splice b 8 (le 4 view)) (start_of sh at_gvec)) (views_in msg 16 sh.s bs h))
