use Rattle.std.proofs.Common.{ℕ, ◌++◌, List, [], unwrap_or, Option, ◌∙◌, ap, sym, arith, take_all}
use Rattle.siit_model.specs.Ipv6.{ipv6_header}
use Rattle.siit_views.specs.Writers.{packet_in6}
use Rattle.siit_quoted.proofs.head6.write_headers.Goals as goal

pub returns-in-Some-clause-bytes : goal.returns-in-Some-clause-bytes
returns-in-Some-clause-bytes c =
    let header : List ℕ = ipv6_header c.args.headers.now.len (packet_in6 c.args.headers.now.fields) in
    take_all 48 c.join_headers.result (omega (arith, c.join_headers.ensures.len))
    ∙ c.join_headers.ensures.value
    ∙ ap (λ l. l ++ c.in-Some.fragment) c.ipv6_header-header.ensures
    ∙ ap (λ (o : Option (List ℕ)). header ++ unwrap_or o []) (sym c.in-Some.is)
