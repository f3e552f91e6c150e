-- The notes of a transaction lift its early entry, and never lower it.
use Rattle.std.specs.Prelude.{◌≤◌, ◌≡◌, true, List}
use Rattle.octets.proofs.Codecs.{All}
use Rattle.rules.specs.Entry.{same_txn}
use Rattle.rules.specs.State.{Note, agreed, greatest}
use Rattle.rules.specs.declared.Entry.{Entry}
use Rattle.rules.specs.declared.Shape.{Shape}

-- no early entry of e's transaction that the notes agree on stands above the greatest of them
abbrev pub Climbs : Shape → List Note → Entry → List Entry → Type 0
Climbs sh xs e early = All (λ d. same_txn e d ≡ true → agreed sh xs d ≡ true → d.stamp ≤ greatest sh xs d) early
