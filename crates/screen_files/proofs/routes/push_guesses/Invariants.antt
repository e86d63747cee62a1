use Rattle.std.proofs.Common.{◌≡◌, ◌≤◌, ◌++◌, ◌-◌, ◌==◌, length}
use Rattle.screen_files.specs.Routes.{guessed_routes, routes_from}
use Rattle.screen_files.proofs.routes.push_guesses.Given as goal

-- the routes so far, and those of the digits that are left, are all
abbrev pub invariant-loop-digit : goal.invariant-loop-digit
invariant-loop-digit l = record {
  rest : l.out.items ++ routes_from l.known l.page l.looks l.is_first (10 - l.digit) l.digit ≡ l.fn.out.items ++ guessed_routes l.known l.page l.looks;
  none : l.is_first ≡ (length l.out.items == length l.fn.out.items);
  longer : length l.fn.out.items ≤ length l.out.items;
}
