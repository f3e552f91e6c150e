-- Which refusal each way through the tests gives. Assumes nothing.
use Prim.Native.Nat.{ℕ}
use mathlib.Core.Path.{◌≡◌, sym, ap, ◌∙◌}
use mathlib.Core.Bool.{Bool, true, false, ◌||◌, not}
use mathlib.Core.List.{List}
use lib.Dec.{eqb}
use borrow.Author.Tests.{not-true, not-false}
use Rattle.rules.specs.Choice.{pick}
use Rattle.rules.specs.Kind.{to_outside}
use Rattle.rules.specs.Wire.{tag_of, header_in}
use Rattle.rules.specs.Read.{wire_in, decoded}
use Rattle.rules.specs.Image.{state_of}
use Rattle.rules.specs.Step.{here, view_right, status_right, role_right}
use Rattle.rules.specs.declared.Shape.{Shape}
use Rattle.rules.specs.declared.Message.{Message}
use Rattle.rules.proofs.Choice.{or_left}
use Rattle.rules.proofs.Case.{tag_known}
use Rattle.writer.specs.Said.{said_of}
use Rattle.writer.specs.declared.Said.{Said}
use Rattle.handler.proofs.Told.{told, told_sender}
use Rattle.std.specs.Prelude.{Result, Ok, Err}
use Rattle.rules.specs.declared.refusals.Refusal.{Refusal}
use Rattle.rules.specs.declared.refusals.Refusal.TheVariants.{Malformed, NotAddressedHere, WrongView, WrongStatus, WrongRole}
use Rattle.admit.specs.Refusal.{admission, Heads}

module _ (sh : Shape) (msg : List ℕ) (x : Message) (u : Said) (d : x ≡ decoded sh.n sh.s msg) (e : u ≡ said_of x) (o : Bool) (q : o ≡ to_outside u.tag) where
  is_tag : u.tag ≡ tag_of x
  is_tag = ap (λ (z : Said). z.tag) e

  first : (eqb u.tag 0 || o) ≡ (eqb (tag_of x) 0 || to_outside (tag_of x))
  first = rw (q, is_tag)

  pub heads : (eqb u.tag 0 || o) ≡ false → Heads sh u.tag u.header msg
  heads f =
      let n : eqb (tag_of x) 0 ≡ false = or_left (eqb (tag_of x) 0) (to_outside (tag_of x)) (sym first ∙ f) in
      let t = told sh.n sh.s x msg d (tag_known x n) in
      let h : u.header ≡ header_in x = ap (λ (z : Said). z.header) e in
      record {
        kind = t.kind ∙ sym is_tag;
        header = t.header ∙ sym h;
        sender = λ g. rw h (told_sender sh.n sh.s x msg t (rw is_tag at g));
      }

  module _ (b : List ℕ) (at : ℕ) where
    abbrev Answers : Result Unit Refusal → Type 0
    Answers r = r ≡ admission sh (state_of sh b) (tag_of x) (wire_in sh.s msg) at

    pub two : (eqb u.tag 0 || o) ≡ true → Answers (Err (Malformed at))
    unfolding admission pick
    two f = rw (sym first ∙ f)

    module _ (f : (eqb u.tag 0 || o) ≡ false) (y₁ : Bool) (e₁ : y₁ ≡ here (state_of sh b) (wire_in sh.s msg)) where
      pub three : not y₁ ≡ true → Answers (Err NotAddressedHere)
      unfolding admission pick
      three g = rw (sym first ∙ f, sym e₁ ∙ not-true y₁ g)

      module _ (g₁ : not y₁ ≡ false) (y₂ : Bool) (e₂ : y₂ ≡ view_right u.tag (state_of sh b) (wire_in sh.s msg)) where
        pub four : not y₂ ≡ true → Answers (Err WrongView)
        unfolding admission pick
        four g = rw (sym first ∙ f, sym e₁ ∙ not-false y₁ g₁, sym is_tag, sym e₂ ∙ not-true y₂ g)

        module _ (g₂ : not y₂ ≡ false) (y₃ : Bool) (e₃ : y₃ ≡ status_right u.tag (state_of sh b) (wire_in sh.s msg)) where
          pub five : not y₃ ≡ true → Answers (Err WrongStatus)
          unfolding admission pick
          five g = rw (sym first ∙ f, sym e₁ ∙ not-false y₁ g₁, sym is_tag, sym e₂ ∙ not-false y₂ g₂, sym e₃ ∙ not-true y₃ g)

          module _ (g₃ : not y₃ ≡ false) (y₄ : Bool) (e₄ : y₄ ≡ role_right u.tag sh (state_of sh b) (wire_in sh.s msg)) where
            pub six : not y₄ ≡ true → Answers (Err WrongRole)
            unfolding admission pick
            six g = rw (sym first ∙ f, sym e₁ ∙ not-false y₁ g₁, sym is_tag, sym e₂ ∙ not-false y₂ g₂, sym e₃ ∙ not-false y₃ g₃, sym e₄ ∙ not-true y₄ g)

            pub taken : not y₄ ≡ false → Answers (Ok tt)
            unfolding admission pick
            taken g = rw (sym first ∙ f, sym e₁ ∙ not-false y₁ g₁, sym is_tag, sym e₂ ∙ not-false y₂ g₂, sym e₃ ∙ not-false y₃ g₃, sym e₄ ∙ not-false y₄ g)
