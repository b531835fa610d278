use Rattle.rv_sites.proofs.Spelled.{sites_section, calls_section}
use Rattle.rv_sites.proofs.laws.written_lists_are_sections.Goals as goal

pub returns : goal.returns
returns c = record { sites = sites_section; calls = calls_section }
