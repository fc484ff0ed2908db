-- R44, R45: the twelve events of W give its table of numbers, values, bytes written and word 3.
use mathlib.Core.Path.{◌≡◌, refl}
use Rattle.rules.specs.Walks.{any_below, each_below, join_below}
use Rattle.rules.specs.SessionW.{play, fresh, events, table}

-- session W, played by the rules, gives the table
pub session_w : (play fresh events).lines ≡ table
unfolding any_below each_below join_below
session_w = refl
