-- The connection parameters that a central takes (Core Vol 3 Part A 4.20, in the ranges of document 01).
use Rattle.std.specs.Prelude.{Bool, ◌&&◌, ◌+◌, ◌*◌, leb, ltb}
use Rattle.signal_forms.specs.declared.ConnParamUpdateReq.{ConnParamUpdateReq}

-- 6 ≤ min ≤ max ≤ 3200, latency ≤ 499, 10 ≤ timeout ≤ 3200, 4·timeout > (1+latency)·max
unfoldable pub parameters_valid : ConnParamUpdateReq → Bool
parameters_valid p =
    leb 6 p.min && (leb p.min p.max && (leb p.max 3200
    && (leb p.latency 499
    && (leb 10 p.timeout && (leb p.timeout 3200
    && ltb ((1 + p.latency) * p.max) (4 * p.timeout))))))
