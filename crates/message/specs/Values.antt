-- The attributes besides the header: their numbers, their widths, and their values in bytes, both ways.
use Rattle.std.specs.Prelude.{ℕ, ◌+◌, ◌-◌, ◌*◌, Bool, false, cond, ◌&&◌, List, [], ◌∷◌, ◌++◌, length, take, drop, replicate, ℤ, Some, None, Option, ◌==◌, nat_eq, nat_le, nat_lt, slice_index}
use Rattle.std.specs.List.{list_all}
use Rattle.std.proofs.Common.{to_z}
use Rattle.std.specs.Int.{w64}
use Rattle.wire.specs.Octets.{two, four, two_at, four_at, part_of}
use Rattle.message.specs.declared.attributes.EndpointName.{EndpointName}
use Rattle.message.specs.declared.attributes.TelephoneNumber.{TelephoneNumber}
use Rattle.message.specs.declared.attributes.TerminationCause.{TerminationCause}
use Rattle.message.specs.declared.attributes.TimeAdjustment.{TimeAdjustment}
use Rattle.message.specs.declared.attributes.Attributes.{Attributes}
use Rattle.message.specs.Tables.{beside, held}
use Rattle.std.specs.Option.{option_map}
use Rattle.message.specs.Headers.{bcid_form, bcid_at, bcid_typed}

-- each number with its least and its greatest width in bytes, the highest number first
abbrev pub widths : List (ℕ × (ℕ × ℕ))
widths =
    (50, (2, 2)) ∷ (38, (8, 8)) ∷ (37, (2, 2)) ∷ (30, (4, 4)) ∷ (26, (4, 4)) ∷ (25, (20, 20)) ∷ (16, (20, 20)) ∷ (13, (24, 24))
    ∷ (11, (6, 6)) ∷ (5, (20, 20)) ∷ (4, (20, 20)) ∷ (3, (1, 32)) ∷ []

-- the width of a value lies in the range of its number
abbrev pub within : ℕ → Option (ℕ × ℕ) → Bool
within k None = false
within k (Some w) = nat_le w.0 k && nat_le k w.1

-- an attribute of an event: its number and its value in bytes
abbrev pub Attribute : Type 0
Attribute = ℕ × List ℕ

abbrev pub fits : Attribute → Bool
fits (n, v) = within (length v) (beside n widths)

-- a name: its length, and 32 bytes with zeros behind it
abbrev pub zeros : List ℕ → Bool
zeros bs = list_all (λ b. nat_eq b 0) bs

abbrev pub name_form : EndpointName → List ℕ
name_form x = take x.«length» x.text

abbrev pub name_of : List ℕ → EndpointName
name_of v = record { «length» = length v; text = v ++ replicate (32 - length v) 0 }

unfoldable pub name_typed : EndpointName → Bool
name_typed x = nat_le 1 x.«length» && nat_le x.«length» 32 && length x.text == 32 && zeros (drop x.«length» x.text)

abbrev pub telephone_of : List ℕ → TelephoneNumber
telephone_of v = record { 0 = v }

abbrev pub telephone_at : ℕ → List ℕ → TelephoneNumber
telephone_at i b = telephone_of (part_of i 20 b)

abbrev pub telephone_typed : TelephoneNumber → Bool
telephone_typed x = length x.0 == 20

abbrev pub cause_form : TerminationCause → List ℕ
cause_form x = two x.source_document ++ four x.cause_code

-- the cause that stands at i
abbrev pub cause_at : ℕ → List ℕ → TerminationCause
cause_at i b = record { source_document = two_at i b; cause_code = four_at (i + 2) b }

abbrev pub cause_of : List ℕ → TerminationCause
cause_of v = cause_at 0 v

unfoldable pub cause_typed : TerminationCause → Bool
cause_typed x = nat_lt x.source_document 65536 && nat_lt x.cause_code 4294967296

abbrev pub adjustment_of : List ℕ → TimeAdjustment
adjustment_of v = record { 0 = v }

abbrev pub adjustment_at : ℕ → List ℕ → TimeAdjustment
adjustment_at i b = adjustment_of (part_of i 8 b)

abbrev pub adjustment_typed : TimeAdjustment → Bool
adjustment_typed x = length x.0 == 8

-- the value of the attribute with a number
abbrev pub value : ℕ → Attributes → Option (List ℕ)
value n a =
    cond (n == 50) (option_map two a.flow_direction)
    (cond (n == 38) (option_map (λ x. x.0) a.time_adjustment)
    (cond (n == 37) (option_map two a.direction)
    (cond (n == 30) (option_map four a.service_flow)
    (cond (n == 26) (option_map four a.udp_port)
    (cond (n == 25) (option_map (λ x. x.0) a.routing_number)
    (cond (n == 16) (option_map (λ x. x.0) a.charge_number)
    (cond (n == 13) (option_map bcid_form a.related_call)
    (cond (n == 11) (option_map cause_form a.termination_cause)
    (cond (n == 5) (option_map (λ x. x.0) a.called_party_number)
    (cond (n == 4) (option_map (λ x. x.0) a.calling_party_number)
    (cond (n == 3) (option_map name_form a.endpoint_name) None)))))))))))

-- the attributes that some values make
abbrev pub attributes_of : List Attribute → Attributes
attributes_of l = record {
  endpoint_name = option_map name_of (beside 3 l);
  calling_party_number = option_map telephone_of (beside 4 l);
  called_party_number = option_map telephone_of (beside 5 l);
  termination_cause = option_map cause_of (beside 11 l);
  related_call = option_map (bcid_at 0) (beside 13 l);
  charge_number = option_map telephone_of (beside 16 l);
  routing_number = option_map telephone_of (beside 25 l);
  udp_port = option_map (four_at 0) (beside 26 l);
  service_flow = option_map (four_at 0) (beside 30 l);
  direction = option_map (two_at 0) (beside 37 l);
  time_adjustment = option_map adjustment_of (beside 38 l);
  flow_direction = option_map (two_at 0) (beside 50 l);
}

-- that the numbers fit their widths, and the texts have their lengths
unfoldable pub attributes_typed : Attributes → Bool
attributes_typed a =
    held name_typed a.endpoint_name && held telephone_typed a.calling_party_number && held telephone_typed a.called_party_number
    && held cause_typed a.termination_cause && held bcid_typed a.related_call && held telephone_typed a.charge_number
    && held telephone_typed a.routing_number && held (λ n. nat_lt n 4294967296) a.udp_port && held (λ n. nat_lt n 4294967296) a.service_flow
    && held (λ n. nat_lt n 65536) a.direction && held adjustment_typed a.time_adjustment && held (λ n. nat_lt n 65536) a.flow_direction

-- the attributes that are there, the highest number first
abbrev pub put_before : ℕ → Option (List ℕ) → List Attribute → List Attribute
put_before n None l = l
put_before n (Some v) l = (n, v) ∷ l

abbrev pub present : List (ℕ × (ℕ × ℕ)) → (ℕ → Option (List ℕ)) → List Attribute
present [] f = []
present ((n, w) ∷ t) f = put_before n (f n) (present t f)

unfoldable pub others : Attributes → List Attribute
others a = present widths (λ n. value n a)

-- the number of the newest of some attributes
abbrev pub last : List Attribute → ℕ
last [] = 0
last ((n, v) ∷ l) = n

-- some attributes, when one more value was kept
abbrev pub kept : ℕ → List ℕ → Attributes → Attributes
kept k v a = record {
  endpoint_name = cond (3 == k) (Some (name_of v)) a.endpoint_name;
  calling_party_number = cond (4 == k) (Some (telephone_of v)) a.calling_party_number;
  called_party_number = cond (5 == k) (Some (telephone_of v)) a.called_party_number;
  termination_cause = cond (11 == k) (Some (cause_of v)) a.termination_cause;
  related_call = cond (13 == k) (Some (bcid_at 0 v)) a.related_call;
  charge_number = cond (16 == k) (Some (telephone_of v)) a.charge_number;
  routing_number = cond (25 == k) (Some (telephone_of v)) a.routing_number;
  udp_port = cond (26 == k) (Some (four_at 0 v)) a.udp_port;
  service_flow = cond (30 == k) (Some (four_at 0 v)) a.service_flow;
  direction = cond (37 == k) (Some (two_at 0 v)) a.direction;
  time_adjustment = cond (38 == k) (Some (adjustment_of v)) a.time_adjustment;
  flow_direction = cond (50 == k) (Some (two_at 0 v)) a.flow_direction;
}

-- a clock's adjustment: eight bytes, big-endian, in two's complement
abbrev pub adjustment_value : TimeAdjustment → ℤ
adjustment_value x =
    to_z w64 (slice_index x.0 0 * 72057594037927936 + slice_index x.0 1 * 281474976710656 + slice_index x.0 2 * 1099511627776 + slice_index x.0 3 * 4294967296
    + slice_index x.0 4 * 16777216 + slice_index x.0 5 * 65536 + slice_index x.0 6 * 256 + slice_index x.0 7)
