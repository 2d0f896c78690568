-- The places that targets name, and the routes by which they are found.
use Rattle.std.specs.Prelude.{ℕ, if◌then◌else◌, List, [], ◌∷◌, codes, bytes_eq, Option, None, Some}
use Rattle.matchit.specs.Rows.{RowsOf}
use Rattle.matchit.specs.Router.{RouteOf}
use Rattle.http_requests.specs.declared.routes.Place.{Place}
use Rattle.http_requests.specs.declared.routes.Place.TheVariants.{Call, Session}

abbrev pub place_of : List ℕ → Option Place
place_of target =
    if bytes_eq target (codes "/call") then Some Call
    else if bytes_eq target (codes "/session") then Some Session
    else None

-- the route of a text without parameters
abbrev pub plain_row : List ℕ → Place → List ℕ × RouteOf Place
plain_row text value = (text, record { pattern = text; text = text; names = []; value = value })

abbrev pub desk_rows : RowsOf (RouteOf Place)
desk_rows = plain_row (codes "/call") Call ∷ plain_row (codes "/session") Session ∷ []
