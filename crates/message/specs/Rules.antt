-- The rules that every event meets.
use Rattle.std.specs.Prelude.{ℕ, Bool, ◌&&◌, ◌||◌, List, [], ◌∷◌, length, is_some, Some, None, Option, ◌==◌}
use Rattle.std.specs.List.{list_all}
use Rattle.fields.specs.Texts.{spaced, zone}
use Rattle.fields.specs.Calendar.{timed}
use Rattle.message.specs.declared.header.Header.{Header}
use Rattle.message.specs.declared.attributes.Attributes.{Attributes}
use Rattle.message.specs.Tables.{beside}
use Rattle.message.specs.Headers.{header_typed}
use Rattle.message.specs.Values.{value, others, attributes_typed}

-- the profile: each kind of event, with the attributes that it must have
abbrev pub profile : List (ℕ × List ℕ)
profile =
    (1, 3 ∷ 5 ∷ 25 ∷ 37 ∷ []) ∷ (2, []) ∷ (7, 26 ∷ 30 ∷ 50 ∷ []) ∷ (8, 30 ∷ 50 ∷ []) ∷ (15, 16 ∷ []) ∷ (16, 11 ∷ []) ∷ (17, 38 ∷ [])
    ∷ (19, 26 ∷ 30 ∷ 50 ∷ []) ∷ (20, []) ∷ []

abbrev pub listed : ℕ → Bool
listed k = is_some (beside k profile)

abbrev pub or_none : Option (List ℕ) → List ℕ
or_none None = []
or_none (Some l) = l

abbrev pub complete : ℕ → Attributes → Bool
complete k a = list_all (λ n. is_some (value n a)) (or_none (beside k profile))

-- the header's form
unfoldable pub well_formed : Header → Bool
well_formed h =
    (h.element_type == 1 || h.element_type == 2 || h.element_type == 3)
    && spaced h.bcid.element_id.0 && zone h.bcid.time_zone.0 && spaced h.element_id.0 && zone h.time_zone.0 && timed h.event_time.0

-- all rules together; Attribute_Count is the number of the attributes besides the header
unfoldable pub sound : Header → Attributes → Bool
sound h a =
    header_typed h && attributes_typed a && length (others a) == h.attribute_count
    && listed h.kind && well_formed h && complete h.kind a
