-- The services of a remap file: what each captured service is sent as.
use Rattle.std.specs.Prelude.{ℕ, ◌+◌, if◌then◌else◌, List, [], ◌∷◌, ◌++◌, length, Option, None, Some, Result, Ok, Err, codes, is_some}
use Rattle.std.specs.Map.{lookup}
use Rattle.std.specs.Option.{option_and_then}
use Rattle.std.specs.Str.{bytes_eq}
use Rattle.csv.specs.Reading.{default_config, records, strip_bom}
use Rattle.desk_values.specs.Answers.{Answers}
use Rattle.desk_values.specs.Reading.{◌>>=◌, txt_in}
use Rattle.remap_ids.specs.declared.remap.RemapErr.{RemapErr}
use Rattle.remap_ids.specs.declared.remap.RemapErr.TheVariants.{BadRow, TwiceFrom, Memory}

-- the captured service, then the one that is sent in its place
abbrev pub ServicePair : Type 0
ServicePair = List ℕ × List ℕ

-- what stands in the place of a captured service, byte for byte
abbrev pub sent_for : List ServicePair → List ℕ → Option (List ℕ)
sent_for services service = lookup (bytes_eq service) services

-- two texts behind the word
abbrev pub text_pair : List ℕ → List ℕ → List ℕ → Option ServicePair
text_pair word captured sent = if bytes_eq word (codes "service") then (do
  first ← txt_in captured
  second ← txt_in sent
  Some (first, second)) else None

-- the fields, where there are just three
abbrev pub three_of : List (List ℕ) → Option (List ℕ × List ℕ × List ℕ)
three_of (first ∷ second ∷ third ∷ []) = Some (first, second, third)
three_of fields = None

-- what a record of the file says; nothing where it is a bad one
abbrev pub service_pair : List (List ℕ) → Option ServicePair
service_pair fields = option_and_then (λ three. text_pair three.0 three.1 three.2) (three_of fields)

-- the services with a further one, which no earlier record has
abbrev pub with_pair : List ServicePair → Option ServicePair → Result (List ServicePair) RemapErr
with_pair services None = Err (BadRow (length services + 1))
with_pair services (Some pair) = if is_some (sent_for services pair.0) then Err (TwiceFrom (length services + 1)) else Ok (services ++ pair ∷ [])

-- what comes next after services, but after an error nothing
abbrev pub goes_on : (List ServicePair → Result (List ServicePair) RemapErr) → Result (List ServicePair) RemapErr
    → Result (List ServicePair) RemapErr
goes_on next (Ok services) = next services
goes_on next (Err error) = Err error

-- the services with those of further records: the first that is bad or has an earlier service decides
abbrev pub with_records : List ServicePair → List (List (List ℕ)) → Result (List ServicePair) RemapErr
with_records services [] = Ok services
with_records services (fields ∷ others) = goes_on (λ all. with_records all others) (with_pair services (service_pair fields))

-- what a remap file says: its services, or the number of the record that is refused
unfoldable pub services_of : List ℕ → Result (List ServicePair) RemapErr
services_of bytes = with_records [] (records default_config (strip_bom bytes))

abbrev pub told : RemapErr → Option (Result (List ServicePair) RemapErr)
told Memory = None
told error = Some (Err error)

-- what a reader answers, but that memory may be wanting
abbrev pub Tells : {R : Type 0} → Result R RemapErr → (R → List ServicePair) → Result (List ServicePair) RemapErr → Type 0
Tells result services expected = Answers (λ read. Ok (services read)) told result expected
