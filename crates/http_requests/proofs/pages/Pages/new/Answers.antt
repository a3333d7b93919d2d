use Rattle.matchit.proofs.OnLiterals.{matchit_on_literals}
use Rattle.std.proofs.Common.{refl}
use Rattle.http_requests.proofs.pages.Pages.new.Goals as goal

pub add_route-requires : goal.add_route-requires
unfolding matchit_on_literals
add_route-requires c = rw c.new-router.ensures refl

pub add_route-requires-2 : goal.add_route-requires-2
unfolding matchit_on_literals
add_route-requires-2 c = rw (c.in_ok-add_route.ensures, c.new-router.ensures) refl

pub add_route-requires-3 : goal.add_route-requires-3
unfolding matchit_on_literals
add_route-requires-3 c = rw (c.in_ok-add_route-2.ensures, c.in_ok-add_route.ensures, c.new-router.ensures) refl

pub add_route-requires-4 : goal.add_route-requires-4
unfolding matchit_on_literals
add_route-requires-4 c = rw (c.in_ok-add_route-3.ensures, c.in_ok-add_route-2.ensures, c.in_ok-add_route.ensures, c.new-router.ensures) refl

pub add_route-requires-5 : goal.add_route-requires-5
unfolding matchit_on_literals
add_route-requires-5 c = rw (c.in_ok-add_route-4.ensures, c.in_ok-add_route-3.ensures, c.in_ok-add_route-2.ensures, c.in_ok-add_route.ensures, c.new-router.ensures) refl

pub add_route-requires-6 : goal.add_route-requires-6
unfolding matchit_on_literals
add_route-requires-6 c = rw (c.in_ok-add_route-5.ensures, c.in_ok-add_route-4.ensures, c.in_ok-add_route-3.ensures, c.in_ok-add_route-2.ensures, c.in_ok-add_route.ensures, c.new-router.ensures) refl

pub add_route-requires-7 : goal.add_route-requires-7
unfolding matchit_on_literals
add_route-requires-7 c = rw (c.in_ok-add_route-6.ensures, c.in_ok-add_route-5.ensures, c.in_ok-add_route-4.ensures, c.in_ok-add_route-3.ensures, c.in_ok-add_route-2.ensures, c.in_ok-add_route.ensures, c.new-router.ensures) refl

pub add_route-requires-8 : goal.add_route-requires-8
unfolding matchit_on_literals
add_route-requires-8 c = rw (c.in_ok-add_route-7.ensures, c.in_ok-add_route-6.ensures, c.in_ok-add_route-5.ensures, c.in_ok-add_route-4.ensures, c.in_ok-add_route-3.ensures, c.in_ok-add_route-2.ensures, c.in_ok-add_route.ensures, c.new-router.ensures) refl

pub add_route-requires-9 : goal.add_route-requires-9
unfolding matchit_on_literals
add_route-requires-9 c = rw (c.in_ok-add_route-8.ensures, c.in_ok-add_route-7.ensures, c.in_ok-add_route-6.ensures, c.in_ok-add_route-5.ensures, c.in_ok-add_route-4.ensures, c.in_ok-add_route-3.ensures, c.in_ok-add_route-2.ensures, c.in_ok-add_route.ensures, c.new-router.ensures) refl

pub add_route-requires-10 : goal.add_route-requires-10
unfolding matchit_on_literals
add_route-requires-10 c = rw (c.in_ok-add_route-9.ensures, c.in_ok-add_route-8.ensures, c.in_ok-add_route-7.ensures, c.in_ok-add_route-6.ensures, c.in_ok-add_route-5.ensures, c.in_ok-add_route-4.ensures, c.in_ok-add_route-3.ensures, c.in_ok-add_route-2.ensures, c.in_ok-add_route.ensures, c.new-router.ensures) refl

pub add_route-requires-11 : goal.add_route-requires-11
unfolding matchit_on_literals
add_route-requires-11 c = rw (c.in_ok-add_route-10.ensures, c.in_ok-add_route-9.ensures, c.in_ok-add_route-8.ensures, c.in_ok-add_route-7.ensures, c.in_ok-add_route-6.ensures, c.in_ok-add_route-5.ensures, c.in_ok-add_route-4.ensures, c.in_ok-add_route-3.ensures, c.in_ok-add_route-2.ensures, c.in_ok-add_route.ensures, c.new-router.ensures) refl

pub add_route-requires-12 : goal.add_route-requires-12
unfolding matchit_on_literals
add_route-requires-12 c = rw (c.in_ok-add_route-11.ensures, c.in_ok-add_route-10.ensures, c.in_ok-add_route-9.ensures, c.in_ok-add_route-8.ensures, c.in_ok-add_route-7.ensures, c.in_ok-add_route-6.ensures, c.in_ok-add_route-5.ensures, c.in_ok-add_route-4.ensures, c.in_ok-add_route-3.ensures, c.in_ok-add_route-2.ensures, c.in_ok-add_route.ensures, c.new-router.ensures) refl

pub invariant_of-result : goal.invariant_of-result
unfolding matchit_on_literals
invariant_of-result c = record { filled = rw (c.in_ok-add_route-12.ensures, c.in_ok-add_route-11.ensures, c.in_ok-add_route-10.ensures, c.in_ok-add_route-9.ensures, c.in_ok-add_route-8.ensures, c.in_ok-add_route-7.ensures, c.in_ok-add_route-6.ensures, c.in_ok-add_route-5.ensures, c.in_ok-add_route-4.ensures, c.in_ok-add_route-3.ensures, c.in_ok-add_route-2.ensures, c.in_ok-add_route.ensures, c.new-router.ensures) refl }
