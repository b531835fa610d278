-- The lists of an executable as contracts see them.
use Rattle.rv_sites.specs.Sections.{Listing}
use Rattle.rv_sites.specs.declared.sites.Sites.{Sites}

abbrev pub listed : Sites → Listing
listed s = record { paths = s.paths.items; checks = s.checks.items; names = s.names.items; calls = s.calls.items }
