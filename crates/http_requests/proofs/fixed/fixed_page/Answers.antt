use Rattle.std.proofs.Common.{refl}
use Rattle.http_requests.specs.Texts.{same_text}
use Rattle.http_requests.specs.Paths.{path_of}
use Rattle.http_requests.specs.Routes.{page_of}
use Rattle.http_requests.proofs.fixed.fixed_page.Goals as goal

pub page_at-requires-clause-row : goal.page_at-requires-clause-row
unfolding page_of
page_at-requires-clause-row c = refl

pub page_at-requires-clause-whole : goal.page_at-requires-clause-whole
unfolding path_of same_text
page_at-requires-clause-whole c = refl

pub page_at-requires-in-Some-eq111-clause-row : goal.page_at-requires-in-Some-eq111-clause-row
unfolding page_of
page_at-requires-in-Some-eq111-clause-row c = refl

pub page_at-requires-in-Some-eq111-clause-whole : goal.page_at-requires-in-Some-eq111-clause-whole
unfolding path_of same_text
page_at-requires-in-Some-eq111-clause-whole c = refl

pub page_at-requires-in-Some-eq116-clause-row : goal.page_at-requires-in-Some-eq116-clause-row
unfolding page_of
page_at-requires-in-Some-eq116-clause-row c = refl

pub page_at-requires-in-Some-eq116-clause-whole : goal.page_at-requires-in-Some-eq116-clause-whole
unfolding path_of same_text
page_at-requires-in-Some-eq116-clause-whole c = refl

pub page_at-requires-in-Some-eq102-clause-row : goal.page_at-requires-in-Some-eq102-clause-row
unfolding page_of
page_at-requires-in-Some-eq102-clause-row c = refl

pub page_at-requires-in-Some-eq102-clause-whole : goal.page_at-requires-in-Some-eq102-clause-whole
unfolding path_of same_text
page_at-requires-in-Some-eq102-clause-whole c = refl

pub page_at-requires-in-Some-eq115-clause-row : goal.page_at-requires-in-Some-eq115-clause-row
unfolding page_of
page_at-requires-in-Some-eq115-clause-row c = refl

pub page_at-requires-in-Some-eq115-clause-whole : goal.page_at-requires-in-Some-eq115-clause-whole
unfolding path_of same_text
page_at-requires-in-Some-eq115-clause-whole c = refl
