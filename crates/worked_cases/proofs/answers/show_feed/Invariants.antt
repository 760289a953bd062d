use Rattle.std.proofs.Common.{length}
use Rattle.worked_cases.proofs.answers.show_feed.Given as goal

-- Each event that is handed over leaves one fewer to come.
abbrev pub decreases-loop-at : goal.decreases-loop-at
decreases-loop-at g l = length (g.F.Feed.coming l.feed)
