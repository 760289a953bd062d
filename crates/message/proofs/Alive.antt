-- The Media_Alive meets the rules.
use Rattle.std.proofs.Common.{◌≡◌, true, [], refl}
use Rattle.fields.specs.Texts.{pair_at, zone}
use Rattle.fields.specs.Calendar.{timed}
use Rattle.message.specs.Headers.{bcid_typed, header_typed}
use Rattle.message.specs.Values.{others, attributes_of, attributes_typed}
use Rattle.message.specs.Rules.{well_formed, sound}
use Rattle.message.specs.MediaAlive.{alive_header}

pub alive_sound : sound alive_header (attributes_of []) ≡ true
unfolding sound header_typed bcid_typed attributes_typed others well_formed zone timed pair_at
alive_sound = refl
