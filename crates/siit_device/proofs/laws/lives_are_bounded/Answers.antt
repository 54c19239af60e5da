use Rattle.std.proofs.Common.{◌<◌, if◌then◌else◌, Bool, true, false, ◌==◌, ℕ}
use Rattle.siit_model.specs.Ipv4.{ipv4_fields, version_in}
use Rattle.siit_model.specs.Ipv6.{ipv6_fields}
use Rattle.siit_device.specs.Laws.{LivesAreBounded, hops_in, may_answer, measure}
use Rattle.siit_device.proofs.Read.{bounded}
use Rattle.siit_device.proofs.laws.lives_are_bounded.Goals as goal

one-of : (test : Bool) (a b : ℕ) → a < 256 → b < 256 → (if test then a else b) < 256
one-of true a b small other = small
one-of false a b small other = other

law : LivesAreBounded
unfolding measure
law bytes small = bounded (may_answer bytes) (hops_in bytes) (one-of (version_in bytes == 4) (ipv4_fields bytes).ttl (ipv6_fields bytes).hop (small 8) (small 7))

pub returns : goal.returns
returns c = law
