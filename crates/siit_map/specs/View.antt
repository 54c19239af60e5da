-- What the code's mapping stands for.
use Rattle.siit_map.specs.Mapping.{Mapping, table, customer}
use Rattle.siit_map.specs.declared.mapping.Kind.{Kind}
use Rattle.siit_map.specs.declared.mapping.Kind.TheVariants.{Table, Customer}

abbrev pub mapping_view : Kind → Mapping
mapping_view (Table eamt prefix) = table eamt prefix
mapping_view (Customer local4 local6 provider) = customer local4 local6 provider
