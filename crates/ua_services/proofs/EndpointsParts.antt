-- Names for parts of the definitions in specs/Endpoints, for the lemmas on these parts.
use Rattle.std.specs.Prelude.{pos, [], None}
use Rattle.ua_services.specs.Endpoints.{ApplicationFields}

-- no URIs, an empty name, a server
abbrev pub no_application : ApplicationFields
no_application = (None, (None, (record { locale = None; text = None }, (pos 0, []))))
