use Rattle.replica.proofs.Face.{narrow_fits, too_wide, miscounted, puts}
use borrow.Author.Rules.{rules}
use Rattle.replica.proofs.jallumere_write.Goals as goal

pub returns-in-Err : goal.returns-in-Err
returns-in-Err c = too_wide _ _ _ _ _ _ _ _ c.head_fits-head.ensures _ _ _ c.in-Err.is c.unfit.ensures

pub overflow_cast-header : goal.overflow_cast-header
overflow_cast-header c = search (rules, narrow_fits _ _ c.head_fits-head.ensures c.in-Ok.is)

pub overflow_cast-header-2 : goal.overflow_cast-header-2
overflow_cast-header-2 c = search (rules, narrow_fits _ _ c.head_fits-head.ensures c.in-Ok.is)

pub overflow_cast-header-3 : goal.overflow_cast-header-3
overflow_cast-header-3 c = search (rules, narrow_fits _ _ c.head_fits-head.ensures c.in-Ok.is)

pub overflow_cast-header-4 : goal.overflow_cast-header-4
overflow_cast-header-4 c = search (rules, narrow_fits _ _ c.head_fits-head.ensures c.in-Ok.is)

pub overflow_cast-header-5 : goal.overflow_cast-header-5
overflow_cast-header-5 c = search (rules, narrow_fits _ _ c.head_fits-head.ensures c.in-Ok.is)

pub overflow_cast-header-6 : goal.overflow_cast-header-6
overflow_cast-header-6 c = search (rules, narrow_fits _ _ c.head_fits-head.ensures c.in-Ok.is)

pub returns-then-numbers-numbers_in : goal.returns-then-numbers-numbers_in
returns-then-numbers-numbers_in c = miscounted _ _ _ _ _ _ _ _ c.head_fits-head.ensures c.in-Ok.is _ c.numbers_in.ensures.0 _ _ c.if-numbers-numbers_in.true c.count_at.ensures c.unfit-then-numbers-numbers_in.ensures

pub returns : goal.returns
returns c = puts _ _ _ _ _ _ _ _ c.head_fits-head.ensures c.in-Ok.is _ c.numbers_in.ensures.0 _ c.write.result _ _ c.if-numbers-numbers_in.false c.case_with-m.ensures c.write.ensures c.code.ensures
