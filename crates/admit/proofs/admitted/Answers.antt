use Rattle.admit.proofs.Refuses.{heads, two, three, four, five, six, taken}
use borrow.Author.Rules.{rules}
use Rattle.admit.proofs.admitted.Goals as goal

pub returns-then-said-to_outside : goal.returns-then-said-to_outside
returns-then-said-to_outside c = search two

pub is_here-requires : goal.is_here-requires
is_here-requires c = search (rules, heads)

pub returns-then-not-is_here : goal.returns-then-not-is_here
returns-then-not-is_here c = search three

pub view_right-requires : goal.view_right-requires
view_right-requires c = search (rules, heads)

pub returns-then-not-view_right : goal.returns-then-not-view_right
returns-then-not-view_right c = search four

pub status_right-requires : goal.status_right-requires
status_right-requires c = search (rules, heads)

pub returns-then-not-status_right : goal.returns-then-not-status_right
returns-then-not-status_right c = search five

pub role_right-requires : goal.role_right-requires
role_right-requires c = search (rules, heads)

pub returns-then-not-role_right : goal.returns-then-not-role_right
returns-then-not-role_right c = search six

pub returns : goal.returns
returns c = search taken
