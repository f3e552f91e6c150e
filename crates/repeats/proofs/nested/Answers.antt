use mathlib.Core.Path.{◌≡◌, ◌∙◌, ap, sym}
use native.Mathlib.Omega.{arith}
use borrow.Author.Tests.{eqb-true, eqb-false}
use Rattle.repeats.specs.Rows.{count_of, key_of}
use Rattle.repeats.specs.Repeat.{seen_key, repeat_place}
use Rattle.repeats.proofs.Places.{key_parts}
use Rattle.repeats.proofs.Laws.{seen_start, seen_more, seen_hit, repeat_start, repeat_next, repeat_here}
use borrow.Author.Rules.{rules}
use Rattle.repeats.proofs.nested.Goals as goal

pub search-init : goal.search-init
search-init c = (search rules, repeat_start (key_of c.args.b.now c.args.sp))

pub loop-j-init : goal.loop-j-init
loop-j-init c = (search rules, search rules, key_parts c.args.b.now c.args.sp c.search.i c.spot-at.result c.get32-low.result c.get16-high.result c.spot-at.ensures c.get32-low.ensures c.get16-high.ensures, seen_start (key_of c.args.b.now c.args.sp) (key_of c.args.b.now c.args.sp c.search.i))

pub loop-j-preserved : goal.loop-j-preserved
loop-j-preserved c = (search rules, search rules, c.loop-j.invariant.2, seen_more (key_of c.args.b.now c.args.sp) (key_of c.args.b.now c.args.sp c.search.i) c.loop-j.j c.loop-j.invariant.3 (λ e. eqb-false _ _ (sym c.same.ensures ∙ c.if-same.false) (e ∙ sym c.loop-j.invariant.2)))

pub search-preserved : goal.search-preserved
search-preserved c = let e : c.search.i ≡ c.loop-j.j = omega arith in (search rules, repeat_next (key_of c.args.b.now c.args.sp) c.search.i c.search.invariant.1 (ap (seen_key (key_of c.args.b.now c.args.sp) (key_of c.args.b.now c.args.sp c.search.i)) e ∙ c.loop-j.invariant.3))

pub returns-then-m-i : goal.returns-then-m-i
returns-then-m-i c = let e : c.search.i ≡ c.count-m.result = omega arith in let f : c.search.i ≡ count_of c.args.sp = omega arith in sym e ∙ sym c.search.invariant.1 ∙ ap (repeat_place (key_of c.args.b.now c.args.sp)) f

pub returns-then-same : goal.returns-then-same
returns-then-same c = sym (repeat_here (key_of c.args.b.now c.args.sp) (count_of c.args.sp) c.search.i (omega arith) c.search.invariant.1 (seen_hit (key_of c.args.b.now c.args.sp) (key_of c.args.b.now c.args.sp c.search.i) c.loop-j.j c.search.i (omega arith) (eqb-true _ _ (sym c.same.ensures ∙ c.if-same.true) ∙ c.loop-j.invariant.2)))
