-- What the two kinds leave that may conclude a change of view.
use Rattle.std.specs.Prelude.{ℕ, List, eqb}
use Rattle.rules.specs.Choice.{pick}
use Rattle.rules.specs.Wire.{tag_of}
use Rattle.rules.specs.Step.{on_vote, on_verify_reply}
use Rattle.rules.specs.Bytes.{Left}
use Rattle.rules.specs.declared.Shape.{Shape}
use Rattle.rules.specs.declared.Message.{Message}
use Rattle.handler.specs.Handler.{handled}

-- by the rule of kind 19, or else of kind 8
abbrev pub concluded : Shape → Message → List ℕ → List ℕ → List ℕ → Left
concluded sh m b msg out = pick (eqb (tag_of m) 19) (handled 19 on_verify_reply sh m b msg out) (handled 8 on_vote sh m b msg out)
