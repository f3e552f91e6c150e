use Rattle.notes.proofs.Points.{other_request, same_request}
use Rattle.notes.proofs.is_of.Goals as goal

pub returns-then-get32-request : goal.returns-then-get32-request
returns-then-get32-request c = same_request _ _ _ _ _ _ c.get32.ensures c.if-get32-request.true c.get16.ensures

pub returns-else-get32-request : goal.returns-else-get32-request
returns-else-get32-request c = other_request _ _ _ _ _ c.get32.ensures c.if-get32-request.false
