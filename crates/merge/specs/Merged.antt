-- The replies with a new one put in, and the draft with all of them merged in.
use Rattle.std.specs.Prelude.{ℕ, List, set}
use Rattle.std.proofs.Math.Option.{Option, some}
use Rattle.octets.specs.Bytes as bytes
use Rattle.rules.specs.Read.{entry_at}
use Rattle.rules.specs.Image.{state_of}
use Rattle.rules.specs.Merge as rule
use Rattle.rules.specs.declared.Entry.{Entry}
use Rattle.rules.specs.declared.Shape.{Shape}
use Rattle.merge.specs.declared.Reply.{Reply}

-- the replies in the bytes b of a state; that of the group that m brings is the entries that stand there
abbrev pub replies_with : Shape → List ℕ → List ℕ → Reply → List (Option (List Entry))
replies_with sh b m r = set (state_of sh b).change.replies r.from (some (bytes.items (entry_at m) 24 r.at r.count))

-- the draft there with these merged in
abbrev pub merged_with : Shape → List ℕ → List ℕ → Reply → List Entry
merged_with sh b m r = rule.merged (state_of sh b).change.draft (replies_with sh b m r)
