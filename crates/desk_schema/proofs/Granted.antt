-- The rights of a service by its name.
use Rattle.std.proofs.Common.{◌≡◌, ℕ, ◌+◌, ◌<◌, ◌≤◌, Bool, true, false, cond, List, [], ◌∷◌, length, get_or, drop, Option, None, Some, refl, sym, ◌∙◌, ap, ◌↔◌, ⊎_elim, subst}
use Rattle.std.specs.Bool.{Decides}
use Rattle.std.specs.List.{Contains}
use Rattle.std.specs.Option.{is_some}
use Rattle.std.specs.Str.{bytes_eq}
use Rattle.std.proofs.lemmas.Bool.{false≢true}
use Rattle.std.proofs.lemmas.List.{drop_more, drop_all}
use Rattle.std.proofs.lemmas.Slice.Eq.{bytes_eq-Decides}
use Rattle.desk_schema.specs.declared.schema.Service.{Service}
use Rattle.desk_schema.specs.declared.schema.Rights.{Rights}
use Rattle.desk_schema.specs.Schema.{rights_of, service_names}
use Rattle.desk_schema.proofs.Members.{Contains-none, Contains-here, Contains-there, Contains-cases}

-- the rights by all of the services are those by what is left
abbrev pub Passed : List Service → List ℕ → ℕ → Type 0
Passed services name i = rights_of services name ≡ rights_of (drop i services) name

pub one_found : (services : List Service) (name : List ℕ) (i : ℕ) (service : Service) → i < length services → service ≡ get_or services i service
    → bytes_eq service.name name ≡ true → Passed services name i → Some service.rights ≡ rights_of services name
one_found services name i service here is same passed =
    sym (passed ∙ ap (λ rest. rights_of rest name) (drop_more services i service here)
    ∙ ap (λ (first : Service). rights_of (first ∷ drop (i + 1) services) name) (sym is)
    ∙ ap (λ b. cond b (Some service.rights) (rights_of (drop (i + 1) services) name)) same)

pub all_passed : (services : List Service) (name : List ℕ) (i : ℕ) → length services ≤ i → Passed services name i → rights_of services name ≡ None
all_passed services name i end passed = passed ∙ ap (λ rest. rights_of rest name) (drop_all i services end)

none_first : (first : Service) (others : List Service) (name : List ℕ) (b : Bool) → Decides b (first.name ≡ name)
    → (is_some (rights_of others name) ≡ false) ↔ (Contains (service_names others) name → ⊥)
    → (is_some (cond b (Some first.rights) (rights_of others name)) ≡ false) ↔ (Contains (service_names (first ∷ others)) name → ⊥)
none_first first others name true d rest =
    (λ e. absurd (false≢true (sym e)), λ absent. absurd (absent (Contains-here' (d.0 refl))))
  where
    Contains-here' : first.name ≡ name → Contains (service_names (first ∷ others)) name
    Contains-here' e = let P : List ℕ → Type 0 = λ x. Contains (first.name ∷ service_names others) x in subst P e (Contains-here first.name (service_names others))
none_first first others name false d rest = (
  λ e c. ⊎_elim (λ is. false≢true (d.1 is)) (rest.0 e) (Contains-cases first.name (service_names others) name c),
  λ absent. rest.1 (λ c. absent (Contains-there first.name (service_names others) name c)),
)

pub none_named : (services : List Service) (name : List ℕ) → (is_some (rights_of services name) ≡ false) ↔ (Contains (service_names services) name → ⊥)
none_named [] name = (λ _ c. Contains-none name c, λ _. refl)
none_named (first ∷ others) name = none_first first others name (bytes_eq first.name name) (bytes_eq-Decides first.name name) (none_named others name)

pub none_found : (services : List Service) (name : List ℕ) (found : Option Rights) → found ≡ rights_of services name
    → (is_some found ≡ false) ↔ (Contains (service_names services) name → ⊥)
none_found services name found is = (λ e. (none_named services name).0 (ap is_some (sym is) ∙ e), λ absent. ap is_some is ∙ (none_named services name).1 absent)
