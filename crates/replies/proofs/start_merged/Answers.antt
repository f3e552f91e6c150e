use mathlib.Core.Path.{◌≡◌, ◌∙◌}
use mathlib.Core.Bool.{true, false}
use mathlib.Core.List.{[]}
use Rattle.places.proofs.Head.{view_of}
use Rattle.places.proofs.Sections.{stands_midway}
use Rattle.replies.proofs.Ways.{merged_past, merged_table, merged_starts}
use borrow.Author.Rules.{rules}
use Rattle.replies.proofs.start_merged.Goals as goal

pub returns-then-not-merge : goal.returns-then-not-merge
returns-then-not-merge c = let f : c.merge.result ≡ false = search rules in merged_past _ _ _ _ _ _ _ c.merge.ensures f

pub start_leading-requires : goal.start_leading-requires
start_leading-requires c = let t : c.merge.result ≡ true = search rules in (c.requires.0, c.requires.1, merged_table c.args.shape c.args.state.now c.args.out.now [] _ _ _ c.merge.ensures t)

pub returns : goal.returns
returns c = let t : c.merge.result ≡ true = search rules in merged_starts _ _ _ _ _ _ _ c.merge.ensures t _ (c.get_view-view.ensures ∙ view_of (stands_midway c.requires.0)) _ c.start_leading.ensures
