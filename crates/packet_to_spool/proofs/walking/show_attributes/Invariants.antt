use Rattle.std.proofs.Common.{length, drop}
use Rattle.packet_to_spool.proofs.walking.show_attributes.Given as goal

-- Each attribute leaves fewer bytes behind it.
abbrev pub decreases-loop-attribute : goal.decreases-loop-attribute
decreases-loop-attribute l = length (drop l.walk.cursor.place l.walk.cursor.bytes.now)
