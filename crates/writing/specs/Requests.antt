-- An event as an Accounting-Request of its own.
use Rattle.std.specs.Prelude.{ℕ, ◌+◌, List, [], ◌∷◌, ◌++◌, length, replicate}
use Rattle.wire.specs.Octets.{two}
use Rattle.digest.specs.Md5.{md5}
use Rattle.message.specs.declared.event.Event.{Event}
use Rattle.message.specs.Headers.{bcid_form}
use Rattle.forms.specs.declared.encoding.Encoding.TheVariants.{Packet}
use Rattle.forms.specs.Forms.{encoded}

-- NAS-IP-Address, Acct-Status-Type 3, Acct-Session-Id with the BCID, then the event
abbrev pub attributes : Event → List ℕ → List ℕ
attributes e address =
    (4 ∷ 6 ∷ []) ++ address ++ (40 ∷ 6 ∷ 0 ∷ 0 ∷ 0 ∷ 3 ∷ []) ++ (44 ∷ 26 ∷ []) ++ bcid_form e.header.bcid ++ encoded Packet e

-- code 4, the identifier, and Length, which counts the whole packet
abbrev pub opening : ℕ → List ℕ → List ℕ
opening identifier attrs = (4 ∷ identifier ∷ []) ++ two (20 + length attrs)

-- the digest of the packet with sixteen zeros in the authenticator's place, and the secret behind it
abbrev pub authenticator : ℕ → List ℕ → List ℕ → List ℕ
authenticator identifier attrs secret = md5 (opening identifier attrs ++ replicate 16 0 ++ attrs ++ secret)

abbrev pub sealed : ℕ → List ℕ → List ℕ → List ℕ
sealed identifier attrs secret = opening identifier attrs ++ authenticator identifier attrs secret ++ attrs

unfoldable pub request : Event → ℕ → List ℕ → List ℕ → List ℕ
request e identifier address secret = sealed identifier (attributes e address) secret
