use mathlib.Core.Path.{refl}
use Rattle.rules.specs.Choice.{pick, any}
use Rattle.rules.specs.Wire.{case_at}
use Rattle.rules.specs.Step.{on_tick}
use Rattle.handler.proofs.Closes.{handled_other}
use Rattle.handler.proofs.OtherKind.{other_case}
use Rattle.releases.proofs.Way.{on_way}
use Rattle.ticks.proofs.Tick.{too_early, led, followed}
use Rattle.ticks.proofs.on_tick.Goals as goal

pub returns-in_default : goal.returns-in_default
unfolding any pick case_at
returns-in_default c = handled_other 23 on_tick _ _ _ _ _ (other_case 23 c.args.m refl (c.in_default.not-Tick _ _))

pub returns-then-time-get_clock : goal.returns-then-time-get_clock
returns-then-time-get_clock c = too_early _ _ _ _ _ _ _ c.requires c.in-Tick.is _ c.get_clock.ensures c.if-time-get_clock.true

pub leader_releases-requires : goal.leader_releases-requires
leader_releases-requires c = on_way c.requires.stands

pub returns-then-leads : goal.returns-then-leads
returns-then-leads c = led _ _ _ _ _ _ _ c.requires c.in-Tick.is _ c.get_clock.ensures c.if-time-get_clock.false _ c.leads.ensures c.if-leads.true _ c.leader_releases.ensures

pub follower_releases-requires : goal.follower_releases-requires
follower_releases-requires c = on_way c.requires.stands

pub returns : goal.returns
returns c = followed _ _ _ _ _ _ _ c.requires c.in-Tick.is _ c.get_clock.ensures c.if-time-get_clock.false _ c.leads.ensures c.if-leads.false _ c.follower_releases.ensures
