-- What a message of a kind with a gVec says of the view. Assumes nothing.
use Prim.Native.Nat.{ℕ, ◌+◌, ◌*◌, ◌^◌, ◌≤◌, ◌<◌}
use mathlib.Core.Path.{◌≡◌, sym, ap, ◌∙◌}
use mathlib.Core.Bool.{Bool, true, false}
use mathlib.Core.List.{List}
use native.Mathlib.Omega.{arith}
use lib.ListN.{length}
use lib.Dec.{eqb}
use Rattle.octets.proofs.Laws.{Bytes}
use Rattle.rules.specs.Group.{leader}
use Rattle.rules.specs.Kind.{bare, known, views_in}
use Rattle.rules.specs.Wire.{tag_of, header_in}
use Rattle.rules.specs.Read.{wire_in}
use Rattle.rules.specs.Image.{state_of}
use Rattle.rules.specs.Step.{leads_by}
use Rattle.rules.specs.declared.Header.{Header}
use Rattle.rules.specs.declared.Shape.{Shape}
use Rattle.rules.specs.declared.Message.{Message}
use Rattle.rules.proofs.Choice.{pick_false}
use Rattle.rules.proofs.Messages.{formed_fits}
use Rattle.handler.specs.Handler.{Ready}
use Rattle.handler.proofs.Told.{Told, told_views, told_length, told_formed, ready_told}
use Rattle.views.specs.Views.{views_of}
use Rattle.changes.specs.Changes.{leads_with}

module _ (sh : Shape) (b msg : List ℕ) (m : Message) (r : Ready sh b m msg) (k : known (tag_of m) ≡ true) where
  abbrev told_so : Told sh.n sh.s m msg
  told_so = ready_told sh b msg m r k

  pub view_said : (wire_in sh.s msg).view ≡ (header_in m).view
  view_said = ap (λ (x : Header). x.view) told_so.header

  pub view_fits : Bytes msg → (header_in m).view < 256 ^ 4
  view_fits bs = omega (arith, view_said, (formed_fits sh.n sh.s (wire_in sh.s msg) told_so.sizes (told_formed sh.n sh.s m msg told_so bs)).view)

  module _ (v : bare (tag_of m) ≡ false) where
    pub views_said : (wire_in sh.s msg).g_vec ≡ views_of sh msg
    views_said = told_views sh.n sh.s m msg told_so v

    pub views_stand : 16 + 4 * sh.s ≤ length msg
    views_stand =
        let e : views_in sh.s (tag_of m) ≡ sh.s = pick_false (bare (tag_of m)) 0 sh.s v in
        omega (arith, told_length sh.n sh.s m msg told_so)

    pub leads_said : (leads : Bool) → leads ≡ leads_with sh (state_of sh b) (views_of sh msg) → leads ≡ leads_by sh (state_of sh b) (wire_in sh.s msg)
    leads_said leads e = e ∙ ap (λ (g : List ℕ). eqb (state_of sh b).site.replica (leader sh.n g (state_of sh b).site.group)) (sym views_said)
