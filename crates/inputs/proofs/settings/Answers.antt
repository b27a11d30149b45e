-- `inputs::settings` meets its contract: seven shorts, one after the other. Assumes nothing.
use Rattle.std.proofs.Common.{ℕ}
use Rattle.vehicle.specs.declared.Settings.{Settings}
use Rattle.inputs.specs.Inputs.{short_of, settings_of}
use Rattle.inputs.proofs.Taken.{took, started, and_then}
use Rattle.inputs.proofs.settings.Goals as goal

-- The record of its parts.
abbrev make : ℕ → ℕ → ℕ → ℕ → ℕ → ℕ → ℕ → Settings
make v0 v1 v2 v3 v4 v5 v6 = record { kind = v0; year = v1; displacement = v2; gearbox = v3; humidity = v4; temperature = v5; pressure = v6 }

pub returns : goal.returns
unfolding settings_of
returns g c =
    let r0 = took 2 short_of _ _ _ _ c.in_ok-short.was c.short.ensures in
    let r1 = took 2 short_of _ _ _ _ c.in_ok-short-2.was c.short-2.ensures in
    let r2 = took 2 short_of _ _ _ _ c.in_ok-short-3.was c.short-3.ensures in
    let r3 = took 2 short_of _ _ _ _ c.in_ok-short-4.was c.short-4.ensures in
    let r4 = took 2 short_of _ _ _ _ c.in_ok-short-5.was c.short-5.ensures in
    let r5 = took 2 short_of _ _ _ _ c.in_ok-short-6.was c.short-6.ensures in
    let r6 = took 2 short_of _ _ _ _ c.in_ok-short-7.was c.short-7.ensures in
    let t0 = started make _ in
    let t1 = and_then 0 2 _ short_of _ _ _ _ _ t0 r0 in
    let t2 = and_then 2 2 _ short_of _ _ _ _ _ t1 r1 in
    let t3 = and_then 4 2 _ short_of _ _ _ _ _ t2 r2 in
    let t4 = and_then 6 2 _ short_of _ _ _ _ _ t3 r3 in
    let t5 = and_then 8 2 _ short_of _ _ _ _ _ t4 r4 in
    let t6 = and_then 10 2 _ short_of _ _ _ _ _ t5 r5 in
    and_then 12 2 _ short_of _ _ _ _ _ t6 r6
